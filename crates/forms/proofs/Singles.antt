-- The normal form of a single solid, and the refusals in their order.
--     single_in, single_told           a solid as its union with the empty solid
--     work_short, solid_not, solid_sound   the answer at each way out
--     single_given                     what the form of a sound solid is given
use mathlib.Core.Path.{◌≡◌, refl, sym, subst}
use mathlib.Core.List.{List, []}
use Prim.Native.Nat.{ℕ, ◌≤◌, ◌<◌}
use lib.Dec.{T}
use borrow.Author.Tests.{lt-leb}
use lib.IntN.{ℤ}
use lib.ListN.{length}
use Rattle.scope.specs.Limits.{stated}
use Rattle.scope.specs.Solids.{Tree, OUT, leaf, code, post, ascending, tables_of}
use Rattle.scope.specs.Cells.{box, union, operate}
use Rattle.scope.specs.Normal.{both, Normal}
use Rattle.scope.specs.Judging.{judge_lent}
use Rattle.scope.specs.Answers.{flat_planes, flat_nodes, refused, tree_answer, short_work, enough_work, solid_refused, formed}
use Rattle.theory.specs.Theorems.{empty_lawful, form, form_single}
use Rattle.theory.specs.Text.Lent.{lent}
use Rattle.std.specs.Prelude.{Result, Ok, Err}
use Rattle.tables.specs.declared.LentSolid.{LentSolid}
use Rattle.tables.specs.declared.Solid.{Solid}
use Rattle.tables.specs.Promises.{SolidOf, judgement}
use Rattle.tables.proofs.Soundness.{rows_refused, rows_sound}
use Rattle.results.specs.Results.{rooms, Outcome, ZerosIn}
use Rattle.results.specs.Operands.{SoundIn}
use Rattle.results.proofs.Calls.{nothing_held, enough}
use Rattle.forms.specs.Promises.{SingleIn, SingleTold, JudgedTold}

-- ---- the empty solid

empty_solid : SolidOf [] [] 65534 (leaf OUT)
unfolding tables_of ascending post code flat_planes flat_nodes
empty_solid = record { lawful = empty_lawful; flat = record { planes = refl; nodes = refl; root = refl } }

module _ (a b : LentSolid) (ep : b.planes.now ≡ []) (en : b.nodes.now ≡ []) (er : b.root ≡ 65534) where
  second_solid : SolidOf b.planes.now b.nodes.now b.root (leaf OUT)
  second_solid = subst (λ t. t) (λ i. SolidOf (sym ep i) (sym en i) (sym er i) (leaf OUT)) empty_solid

  pub single_in : {xs : List ℤ} {ns : List ℕ} {path : List ℤ} → SingleIn a xs ns path → SoundIn a b xs ns path
  single_in h = record { first = h.tree; first_solid = h.solid; second = leaf OUT; second_solid = second_solid; zeros = h.zeros; path_room = h.path_room }

-- an operation of a solid and the empty solid is told
pub single_told : (a : LentSolid) (xs : List ℤ) {xs' : List ℤ} (ns : List ℕ) {ns' : List ℕ} {r : Result Solid ℕ}
    → ((A B s : Tree) → SolidOf a.planes.now a.nodes.now a.root A → SolidOf [] [] 65534 B → Normal (both (operate union) A B) box s → Outcome (tree_answer (rooms xs ns) s) xs' ns' r) → SingleTold a xs xs' ns ns' r
single_told a xs ns f A s u n = f A (leaf OUT) s u empty_solid (form_single u.lawful n)

-- ---- the way to the answer

module _ (a : LentSolid) where
  abbrev judged_as : Result Solid (ℕ × ℕ)
  judged_as = judgement a.planes.now a.nodes.now a.root (judge_lent (lent a.planes.now a.nodes.now a.root))

  pub work_short : {work : ℕ} {xs xs' : List ℤ} {ns ns' : List ℕ} → work < stated → JudgedTold work a xs xs' ns ns' (Err 8)
  work_short {work} h = record { answer = refused 8; exact = short_work (λ t. subst T (lt-leb stated work h) t); outcome = nothing_held 8 }

  pub solid_not : {work : ℕ} {xs xs' : List ℤ} {ns ns' : List ℕ} {k l : ℕ} → stated ≤ work → Err (k, l) ≡ judged_as → JudgedTold work a xs xs' ns ns' (Err k)
  solid_not {work} {k = k} w e = record { answer = refused k; exact = enough_work (enough work w) (solid_refused (rows_refused a.planes.now a.nodes.now a.root e refl)); outcome = nothing_held k }

  pub solid_sound : {work : ℕ} {xs xs' : List ℤ} {ns ns' : List ℕ} {s : Solid} {r : Result Solid ℕ} → stated ≤ work → Ok s ≡ judged_as → SingleTold a xs xs' ns ns' r → JudgedTold work a xs xs' ns ns' r
  solid_sound {work} {xs} {ns = ns} w e f =
      let q = rows_sound a.planes.now a.nodes.now a.root e refl in
      let n = form q.held.lawful in
      record { answer = tree_answer (rooms xs ns) n.0; exact = enough_work (enough work w) (formed q.tree n.0 q.accepts n.1); outcome = f q.tree n.0 q.held n.1 }

  pub single_given : {xs path : List ℤ} {ns : List ℕ} {s : Solid} → Ok s ≡ judged_as → ZerosIn xs ns → 1152 ≤ length path → SingleIn a xs ns path
  single_given e z r = let q = rows_sound a.planes.now a.nodes.now a.root e refl in record { tree = q.tree; solid = q.held; zeros = z; path_room = r }
