-- `polygons::start::way` meets its contract: the tests and the signs are of the plane's numbers. Assumes nothing.
use mathlib.Core.Path.{◌≡◌}
use lib.IntN.{nat_abs}
use borrow.Author.Rules.{rules}
use Rattle.planes.specs.Values.{plane}
use Rattle.polygons.specs.Values.{way_from}
use Rattle.polygons.proofs.Rules.{way_first, way_second, way_third}
use Rattle.polygons.proofs.start.way.Goals as goal

pub returns-then-greatest : goal.returns-then-greatest
returns-then-greatest c =
    let s = c.args.s in
    let x : c.size-x.result ≡ nat_abs s.a = search rules in
    let y : c.size-y.result ≡ nat_abs s.b = search rules in
    let z : c.size-z.result ≡ nat_abs s.c = search rules in
    let r : c.by_sign.result ≡ way_from s.a 0 = search rules in
    way_first (plane s) x y z c.greatest.ensures c.if-greatest.true r

pub returns-then-z-y : goal.returns-then-z-y
returns-then-z-y c =
    let s = c.args.s in
    let x : c.size-x.result ≡ nat_abs s.a = search rules in
    let y : c.size-y.result ≡ nat_abs s.b = search rules in
    let z : c.size-z.result ≡ nat_abs s.c = search rules in
    let r : c.by_sign-then-z-y.result ≡ way_from s.b 2 = search rules in
    way_second (plane s) x y z c.greatest.ensures c.if-greatest.false c.if-z-y.true r

pub returns : goal.returns
returns c =
    let s = c.args.s in
    let x : c.size-x.result ≡ nat_abs s.a = search rules in
    let y : c.size-y.result ≡ nat_abs s.b = search rules in
    let z : c.size-z.result ≡ nat_abs s.c = search rules in
    let r : c.by_sign-2.result ≡ way_from s.c 4 = search rules in
    way_third (plane s) x y z c.greatest.ensures c.if-greatest.false c.if-z-y.false r
