-- The call that gives a solid, from what its frame gives of a step.
--     nothing_held, enough     a refusal holds nothing; a work table that is long enough
--     told_given               what the call promises, where the step is right
use mathlib.Core.Path.{◌≡◌, refl, sym, ap, subst, ◌∙◌}
use mathlib.Core.List.{List, []}
use Prim.Native.Nat.{ℕ, ◌-◌, ◌/◌, ◌≤◌, ◌<◌}
use native.Mathlib.Decide.{dec_le}
use native.Mathlib.Omega.{arith}
use lib.Dec.{T, leb}
use borrow.Author.Tests.{le-leb, lt-leb}
use lib.IntN.{ℤ, pos}
use lib.ListN.{length, replicate, length-replicate}
use Rattle.std.specs.Prelude.{Result, Ok, Err}
use Rattle.whole.specs.Tests.{differ}
use Rattle.scope.specs.Limits.{stated}
use Rattle.scope.specs.Judging.{Rooms}
use Rattle.scope.specs.Solids.{Tables, tables}
use Rattle.scope.specs.Answers.{Answer, given, refused, plane_numbers, node_numbers, filled, short_work}
use Rattle.refusals.specs.declared.Refusal.{Refusal}
use Rattle.refusals.specs.Numbers.{number, numbered}
use Rattle.tables.specs.declared.Solid.{Solid}
use Rattle.results.specs.Results.{Asked, merge_of, form_of, Right, rooms, given_of, Told, Outcome, Judged, Wiped, Step, Ran, Gives}

-- ---- a refusal

-- a refusal holds nothing
pub nothing_held : {xs : List ℤ} {ns : List ℕ} (k : ℕ) → Outcome (refused k) xs ns (Err k)
nothing_held k = record { told = refl; held = λ a e. differ (cc) }

pub enough : (work : ℕ) → stated ≤ work → T (leb stated work)
enough work w = subst T (sym (le-leb stated work w)) tt

right_short : (q : Asked) (work : ℕ) (s : Rooms) → work < stated → Right q work s (refused 8)
right_short (merge_of o A B) work s h = short_work (λ t. subst T (lt-leb stated work h) t)
right_short (form_of A) work s h = short_work (λ t. subst T (lt-leb stated work h) t)

-- ---- the call

zeros_left : {A : Type 0} (o : A) (n : ℕ) → replicate n o ≡ filled o n []
zeros_left o n = ap (λ k. replicate k o) {x = n} {y = n - 0} (omega arith)

same_number : {j k : ℕ} → ◌≡◌ {A = Result Solid ℕ} (Err j) (Err k) → j ≡ k
same_number d = cc

module _ {q : Asked} {xs xs' : List ℤ} {ns ns' : List ℕ} {w w' : List ℤ} where
  told_refused : {k : ℕ} → Right q (length w) (rooms xs ns) (refused k) → Wiped xs xs' ns ns' → w' ≡ replicate (length w) (pos 0) → Told q xs xs' ns ns' w w' (Err k)
  told_refused r z v = record { answer = _; exact = r; told = refl; planes = z.planes ∙ zeros_left (pos 0) (length xs); nodes = z.nodes ∙ zeros_left 0 (length ns); work = v }

  told_ran : {step : Step} {r : Result Solid Refusal} (z : Ran step xs xs' ns ns' w r) → length xs' ≡ length xs → length ns' ≡ length ns → ((e : Refusal) → r ≡ Err e → Wiped xs xs' ns ns') → w' ≡ replicate (length w) (pos 0)
      → Judged q (length z.work.now) z.planes.now z.planes_left.now z.nodes.now z.nodes_left.now (numbered r) → Told q xs xs' ns ns' w w' (numbered r)
  told_ran {r = r} z lx ln wiped v j = by r z.solid wiped j.answer exact j.outcome
    where
      exact : Right q (length w) (rooms xs ns) j.answer
      exact = subst (λ a. a) (λ i. Right q (length (z.lent i)) (record { plane_rows = (ap length z.zeros.planes ∙ length-replicate (length xs) (pos 0)) i / 4; node_rows = (ap length z.zeros.nodes ∙ length-replicate (length ns) 0) i / 3 }) j.answer) j.exact

      by : (r : Result Solid Refusal) → ((s : Solid) → r ≡ Ok s → (xs' ≡ z.planes_left.now) × (ns' ≡ z.nodes_left.now)) → ((e : Refusal) → r ≡ Err e → Wiped xs xs' ns ns') → (a : Answer Tables) → Right q (length w) (rooms xs ns) a → Outcome a z.planes_left.now z.nodes_left.now (numbered r) → Told q xs xs' ns ns' w w' (numbered r)
      by (Ok s) f g (given a) e o =
          let d = f s refl in
          let h = o.held a refl in
          record {
            answer = given a;
            exact = e;
            told = o.told;
            planes = d.0 ∙ h.planes ∙ ap (λ n. filled (pos 0) n (plane_numbers a)) (sym (ap length d.0) ∙ lx);
            nodes = d.1 ∙ h.nodes ∙ ap (λ n. filled 0 n (node_numbers a)) (sym (ap length d.1) ∙ ln);
            work = v;
          }
      by (Ok s) f g (refused k) e o = let d : Ok s ≡ Err k = o.told in differ (cc)
      by (Err i) f g (given (tables ps es r)) e o = let d : Err (number i) ≡ given_of (given (tables ps es r)) = o.told in differ (cc)
      by (Err i) f g (refused k) e o = rw (same_number o.told) (told_refused e (g i refl) v)

  -- the tables are as long as before
  pub told_given : {step : Step} {r : Result Solid Refusal} (g : Gives step xs xs' ns ns' w w' r) → length xs' ≡ length xs → length ns' ≡ length ns
      → ((l : stated ≤ length w) → Judged q (length (g.enough l).work.now) (g.enough l).planes.now (g.enough l).planes_left.now (g.enough l).nodes.now (g.enough l).nodes_left.now (numbered r)) → Told q xs xs' ns ns' w w' (numbered r)
  told_given {r = r} g lx ln f = go (dec_le stated (length w))
    where
      go : Dec (stated ≤ length w) → Told q xs xs' ns ns' w w' (numbered r)
      go (yes l) = told_ran (g.enough l) lx ln g.refusal g.work (f l)
      go (no n) = let s : length w < stated = omega (arith, n) in let e = g.short s in rw e (told_refused (right_short q (length w) (rooms xs ns) s) (g.refusal _ e) g.work)
