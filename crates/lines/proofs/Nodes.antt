-- The loop over the lines of nodes.
--     no_marks         a work table of zeros marks no plane
--     node_inside      what a line that is taken leaves: where it ends, and how many trees and rows stand
--     nodes_start      none were taken
--     nodes_next       one more is taken
--     nodes_refused    a line is refused
use mathlib.Core.Path.{◌≡◌, refl, sym, ap, subst, ◌∙◌}
use mathlib.Core.Bool.{not}
use mathlib.Core.List.{List, [], ◌∷◌, ◌++◌}
use mathlib.Core.Option.{Option, none, some}
use Rattle.std.specs.Prelude.{Ok, Err}
use Prim.Native.Nat.{ℕ, suc, ◌+◌, ◌-◌, ◌*◌, ◌≤◌, ◌<◌}
use native.Mathlib.Omega.{arith}
use lib.Dec.{eqb}
use lib.IntN.{ℤ, pos}
use lib.ListN.{length, get_or, get_or-replicate, drop, replicate, length-append}
use lib.Seq.{sets}
use Rattle.whole.specs.Tests.{◌or◌, differ}
use Rattle.scope.specs.Planes.{Plane, is_zero}
use Rattle.scope.specs.Solids.{Entry, entry}
use Rattle.scope.specs.Text.{node_row, frames}
use Rattle.scope.specs.Judging.{Rooms, Sub, busy, stop, row_by, add_row, uses, step, refused, read_solid}
use Rattle.scope.specs.Answers.{flat_nodes}
use Rattle.theory.specs.Text.Counts.{sizes, sizes_of, size_row, row_size}
use Rattle.theory.specs.Text.Uses.{uses_end}
use Rattle.frames.specs.declared.Cursor.{Cursor}
use Rattle.frames.specs.Follows.{node_refuses}
use Rattle.frames.specs.Promises.{NodeRead}
use Rattle.tables.specs.Rows.{entry_at}
use Rattle.tables.specs.Work.{stack, total, marked}
use Rattle.lines.specs.Lines.{NodeLine, node_taken, no_node, bad_node}
use Rattle.lines.specs.Reading.{HoldsNodes, NodesOver}
use Rattle.lines.proofs.Lines.{line_goes, line_refused}
use Rattle.lines.proofs.Tables.{zeros_held, nodes_more, node_here}

pub no_marks : (w : List ℤ) → 1064 ≤ length w → w ≡ replicate (length w) (pos 0) → (k : ℕ) → k < 64 → marked w k ≡ uses k []
unfolding marked uses
no_marks w room z k l = ap (λ v. not (is_zero v)) (ap (λ v. get_or v (1000 + k) (pos 0)) z ∙ get_or-replicate (length w) (1000 + k) (pos 0) (pos 0) (omega (arith, room, l)))

pub node_inside : {t : List ℕ} {at n i : ℕ} {ns ns' : List ℕ} {w w' : List ℤ} {depth : ℕ} {c : Cursor} {d : ℕ} → NodeLine t at n i ns ns' w w' depth (Ok (c, d)) → (c.at ≤ length t) × (d ≤ i + 1) × (total (stack w' d) ≤ i + 1)
node_inside (node_taken a h) = (a.reads.inside, h.deep, h.sizes)

pub nodes_start : (ps : List Plane) (t : List ℕ) (from l m : ℕ) (ns : List ℕ) (w : List ℤ) → ns ≡ replicate (length ns) 0 → ((k : ℕ) → k < 64 → marked w k ≡ uses k []) → NodesOver ps t from l m ns w 0 from 0
unfolding flat_nodes stack
nodes_start ps t from l m ns w z marks = record {
  entries = [];
  trees = [];
  count = refl;
  table = zeros_held 0 ns z;
  stands = refl;
  marks = marks;
  goes = λ s r rest q e. λ i. read_solid s (busy 0 (whole rest e i) r q ps [] []) (line i) (frames (drop from t));
}
  where
    whole : (rest : ℕ) → rest + 0 ≡ m → m ≡ rest
    whole rest e = omega (arith, e)

    line : l ≡ l + 0
    line = omega arith

abbrev entry_number : Entry → ℕ
entry_number (entry p f b) = p

-- ---- trees from their sizes

record Sized (o : Option (List Sub)) (ks : List ℕ) : Type 0 where
  pub trees : List Sub
  pub is : o ≡ some trees
  pub have : sizes trees ≡ ks

sized : (o : Option (List Sub)) {ks : List ℕ} → sizes_of o ≡ some ks → Sized o ks
sized none e = differ (cc e)
sized (some st) e = record { trees = st; is = refl; have = cc e }

unsized : (o : Option (List Sub)) → sizes_of o ≡ none → o ≡ none
unsized none e = refl
unsized (some st) e = differ (cc e)

module _ {ps : List Plane} {t : List ℕ} {from l m : ℕ} {ns : List ℕ} {w : List ℤ} {i at depth n : ℕ} (q : NodesOver ps t from l m ns w i at depth) (planes : length ps ≡ n) (more : i < m) (room : 3 * i + 3 ≤ length ns) where
  -- what is left to judge before the line
  before : (s : Rooms) (r rest : ℕ) (o : Option Plane) → rest + suc i ≡ m → read_solid s (busy 0 m r o ps [] []) l (frames (drop from t)) ≡ read_solid s (busy 0 (suc rest) r o ps q.entries q.trees) (l + i) (frames (drop at t))
  before s r rest o e = q.goes s r (suc rest) o (omega (arith, e))

  module _ {ns' : List ℕ} {next : ℕ} (a : NodeRead t at i ns ns' next) where
    abbrev is : Entry
    is = entry a.plane_number a.front a.back

    held : HoldsNodes ns' (q.entries ++ (is ∷ []))
    held = nodes_more ns ns' q.entries a.plane_number a.front a.back q.table (omega (arith, q.count, room)) (a.table ∙ ap (λ k. sets ns (3 * k) (a.plane_number ∷ a.front ∷ a.back ∷ [])) (sym q.count))

    here : entry_at ns' i ≡ is
    here = ap (entry_at ns') (sym q.count) ∙ node_here ns ns' q.entries a.plane_number a.front a.back held

    -- the row over trees has the sizes of the row over sizes
    row : {o : Option (List ℕ)} → size_row n i (stack w depth) (entry_at ns' i) ≡ o → sizes_of (add_row ps (length q.entries) q.trees is) ≡ o
    row e = row_size ps (length q.entries) q.trees is ∙ (λ u. size_row (planes u) (q.count u) (q.stands u) (sym here u)) ∙ e

    stepped : {o : Option (List Sub)} → add_row ps (length q.entries) q.trees is ≡ o → (s : Rooms) (r rest : ℕ) (p : Option Plane) → step s (busy 0 (suc rest) r p ps q.entries q.trees) (node_row is) ≡ row_by o (λ st. busy 0 rest r p ps (q.entries ++ (is ∷ [])) st)
    unfolding step
    stepped e s r rest p = ap (λ o. row_by o (λ st. busy 0 rest r p ps (q.entries ++ (is ∷ [])) st)) e

    number : entry_number (entry_at ns' i) ≡ a.plane_number
    number = ap entry_number here

  pub nodes_next : {ns' : List ℕ} {w' : List ℤ} {c : Cursor} {d : ℕ} → NodeLine t at n i ns ns' w w' depth (Ok (c, d)) → NodesOver ps t from l m ns' w' (i + 1) c.at d
  nodes_next {ns'} {w'} {c} {d} (node_taken a h) = subst (λ k. NodesOver ps t from l m ns' w' k c.at d) {x = suc i} {y = i + 1} (omega arith) (record {
    entries = q.entries ++ (is a ∷ []);
    trees = x.trees;
    count = length-append q.entries (is a ∷ []) ∙ omega (arith, q.count);
    table = held a;
    stands = x.have;
    marks = λ k b. h.marks k b ∙ (λ u. q.marks k b u or eqb k (number a u)) ∙ sym (uses_end k a.plane_number a.front a.back q.entries);
    goes = λ s r rest p e. before s r rest p e ∙ line_goes s _ (l + i) a.reads.first (stepped a x.is s r rest p) ∙ ap (λ j. read_solid s (busy 0 rest r p ps (q.entries ++ (is a ∷ [])) x.trees) j (frames (drop c.at t))) line;
  })
    where
      x : Sized (add_row ps (length q.entries) q.trees (is a)) (stack w' d)
      x = sized (add_row ps (length q.entries) q.trees (is a)) (row a h.row)

      line : suc (l + i) ≡ l + suc i
      line = omega arith

  pub nodes_refused : {ns' : List ℕ} {w' : List ℤ} {k : ℕ} → NodeLine t at n i ns ns' w w' depth (Err k) → (s : Rooms) (r : ℕ) (p : Option Plane) → read_solid s (busy 0 m r p ps [] []) l (frames (drop from t)) ≡ refused k (l + i)
  nodes_refused (no_node h) s r p = before s r (m - suc i) p (omega (arith, more)) ∙ node_refuses s (l + i) (frames (drop at t)) r p ps q.entries q.trees (m - suc i) h
  nodes_refused (bad_node a h) s r p =
      before s r (m - suc i) p (omega (arith, more))
      ∙ line_refused s _ (l + i) a.reads.first (stepped a (unsized (add_row ps (length q.entries) q.trees (is a)) (row a h.row)) s r (m - suc i) p ∙ ap stop (sym h.number))
