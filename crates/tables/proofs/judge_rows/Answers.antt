-- `tables::judge_rows` meets its contract: at each way out the answer is document 01's (proofs/Stages). Assumes nothing.
use mathlib.Core.Path.{◌≡◌, sym, ap, ◌∙◌}
use mathlib.Core.List.{List}
use Prim.Native.Nat.{ℕ, ◌/◌, ◌<◌}
use lib.IntN.{ℤ}
use lib.ListN.{length}
use Rattle.scope.specs.Judging.{judge_head}
use Rattle.theory.specs.Text.Lent.{lent_rooms}
use native.Mathlib.Omega.{arith}
use borrow.Author.Rules.{rules}
use Rattle.std.specs.Prelude.{⊤, Result, Ok, Err}
use Rattle.std.proofs.lemmas.Result.{err_from_is_err_and}
use Rattle.refusals.specs.Numbers.{numbered, lined}
use Rattle.refusals.specs.declared.Refusal.{Refusal}
use Rattle.tables.specs.Promises.{judged, plane_judged, on_line, counts}
use Rattle.tables.proofs.Lent.{sound_or}
use Rattle.tables.proofs.Stages.{Begun, begun, begun_not, Planed, planed_not, left_over, nodes_ready, nodes_not, closed}
use Rattle.tables.proofs.judge_rows.Goals as goal

-- the counts are taken where the head is not refused
headed : {xs : List ℤ} {ns : List ℕ} {root : ℕ} {h : Result ⊤ Refusal} → numbered h ≡ judged (judge_head (lent_rooms xs ns) (length xs / 4) (length ns / 3) root) → h ≡ Ok tt → Begun xs ns root
headed {xs} {ns} {root} e f = begun xs ns root (sym e ∙ ap numbered f)

-- the planes are taken where none is refused
taken : {xs : List ℤ} {ns : List ℕ} {root : ℕ} {h : Result ⊤ Refusal} → numbered h ≡ judged (judge_head (lent_rooms xs ns) (length xs / 4) (length ns / 3) root) → h ≡ Ok tt → ((i : ℕ) → i < length xs / 4 → plane_judged xs i ≡ Ok tt) → Planed xs ns root
taken e f g = record { begins = headed e f; fine = g }

pub returns-in_err-map_err : goal.returns-in_err-map_err
returns-in_err-map_err c =
    let p = err_from_is_err_and c.from_residual.result c.from_residual.ensures.1 in
    let a = c.args.s.now in
    let e : lined {A = ⊤} (Err c.in_err-map_err.field-0.0) ≡ on_line 1 (numbered c.judge_head.result) = search rules in
    rw (p.1, p.2) (begun_not a.planes.now a.nodes.now a.root (numbered c.judge_head.result) c.judge_head.ensures e)

pub judge_planes-requires : goal.judge_planes-requires
judge_planes-requires c =
    let a = c.args.s.now in
    let b : Begun a.planes.now a.nodes.now a.root = headed c.judge_head.ensures (search rules) in
    (omega arith, b.few_planes)

pub returns-in_err-judge_planes : goal.returns-in_err-judge_planes
returns-in_err-judge_planes c =
    let a = c.args.s.now in
    let p = err_from_is_err_and c.from_residual-in_err-judge_planes.result c.from_residual-in_err-judge_planes.ensures.1 in
    rw (p.1, p.2) (planed_not a.planes.now a.nodes.now a.root (headed c.judge_head.ensures (search rules)) c.in_err-judge_planes.ensures)

pub returns-in_err-depth : goal.returns-in_err-depth
returns-in_err-depth c =
    let a = c.args.s.now in
    let p = err_from_is_err_and c.from_residual-in_err-depth.result c.from_residual-in_err-depth.ensures.1 in
    rw (p.1, p.2) (nodes_not a.planes.now a.nodes.now a.root (taken c.judge_head.ensures (search rules) c.in_ok-judge_planes.ensures) c.if-s-ne0.false c.in_err-depth.ensures)

pub judge_nodes-requires : goal.judge_nodes-requires
judge_nodes-requires c = let a = c.args.s.now in nodes_ready a.planes.now a.nodes.now a.root (taken c.judge_head.ensures (search rules) c.in_ok-judge_planes.ensures)

pub returns-then-s-ne0 : goal.returns-then-s-ne0
returns-then-s-ne0 c =
    let a = c.args.s.now in
    rw c.at.ensures (left_over a.planes.now a.nodes.now a.root (taken c.judge_head.ensures (search rules) c.in_ok-judge_planes.ensures) c.if-s-ne0.true)

pub returns-in_err-judge_close : goal.returns-in_err-judge_close
returns-in_err-judge_close c =
    let a = c.args.s.now in
    let p = err_from_is_err_and c.from_residual-in_err-judge_close.result c.from_residual-in_err-judge_close.ensures.1 in
    rw (p.1, p.2) (ap (sound_or (counts a.planes.now a.nodes.now a.root)) c.in_err-judge_close.ensures ∙ closed a.planes.now a.nodes.now a.root (taken c.judge_head.ensures (search rules) c.in_ok-judge_planes.ensures) c.if-s-ne0.false c.judge_nodes.new.work c.in_ok-depth.depth c.in_ok-depth.ensures)

pub judge_close-requires : goal.judge_close-requires
judge_close-requires c = let a = c.args.s.now in let b : Begun a.planes.now a.nodes.now a.root = headed c.judge_head.ensures (search rules) in (b.few_planes, b.few_rows, omega (arith, c.judge_nodes.auto.work))

pub returns : goal.returns
returns c =
    let a = c.args.s.now in
    ap (sound_or (counts a.planes.now a.nodes.now a.root)) c.in_ok-judge_close.ensures ∙ closed a.planes.now a.nodes.now a.root (taken c.judge_head.ensures (search rules) c.in_ok-judge_planes.ensures) c.if-s-ne0.false c.judge_nodes.new.work c.in_ok-depth.depth c.in_ok-depth.ensures
