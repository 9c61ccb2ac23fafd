-- One line more of `read_solid`: it goes on, it ends, or it is refused.
--     line_goes, line_ends, line_refused   by what `step` says of the line
--     head_step, plane_step, end_step      what `step` says, from the code's answers
use mathlib.Core.Path.{◌≡◌, refl, ap, ◌∙◌}
use mathlib.Core.Bool.{Bool, true, false}
use mathlib.Core.List.{List, ◌∷◌}
use mathlib.Core.Option.{Option, none, some}
use Rattle.std.specs.Prelude.{⊤, Result, Ok, Err}
use Prim.Native.Nat.{ℕ, suc}
use Rattle.scope.specs.Planes.{Fault}
use Rattle.scope.specs.Solids.{Tables}
use Rattle.scope.specs.Text.{Frame}
use Rattle.scope.specs.Judging.{Rooms, State, fresh, Step, go, done, stop, head_by, plane_by, end_by, step, read, refused, next, read_solid}
use Rattle.tables.specs.Promises.{judged, end_judged}

-- ---- one line

module _ (s : Rooms) (c : State) {f : Frame} {fs gs : List Frame} (l : ℕ) (e : fs ≡ f ∷ gs) where
  by_step : {x : Step} → step s c f ≡ x → read_solid s c l fs ≡ next x (λ c'. read_solid s c' (suc l) gs) l gs
  unfolding read_solid
  by_step h = ap (read_solid s c l) e ∙ ap (λ x. next x (λ c'. read_solid s c' (suc l) gs) l gs) h

  pub line_goes : {c' : State} → step s c f ≡ go c' → read_solid s c l fs ≡ read_solid s c' (suc l) gs
  line_goes h = by_step h

  pub line_ends : {a : Tables} → step s c f ≡ done a → read_solid s c l fs ≡ read a (suc l) gs
  line_ends h = by_step h

  pub line_refused : {k : ℕ} → step s c f ≡ stop k → read_solid s c l fs ≡ refused k l
  line_refused h = by_step h

-- ---- from the code's answers

abbrev pub as_step : Result ⊤ ℕ → Step → Step
as_step (Ok u) x = x
as_step (Err k) x = stop k

pub head_step : (b c d : Bool) (s : State) → head_by b c d s ≡ as_step (judged (head_by b c d s)) (go s)
head_step false c d s = refl
head_step true false d s = refl
head_step true true false s = refl
head_step true true true s = refl

pub plane_step : (o : Option Fault) (b : Bool) (c : State) → plane_by o b c ≡ as_step (judged (plane_by o b fresh)) (go c)
plane_step (some f) b c = refl
plane_step none false c = refl
plane_step none true c = refl

pub end_step : (b u : Bool) (a : Tables) → end_by b u a ≡ as_step (end_judged b u) (done a)
end_step false u a = refl
end_step true false a = refl
end_step true true a = refl
