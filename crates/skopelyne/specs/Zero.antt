-- The number 0, which no refusal has: it is told exactly when the call refuses nothing. Any other number leaves what is counted, and every
-- lent table, all zeros.
--     given_zero, given_refused       merge and normal form of lent tables
--     read_zero, read_refused         reading
--     write_zero, write_refused, text_zero, text_refused   writing, and the calls on texts
--     point_zero, point_refused, section_zero, section_refused   point, section
use Rattle.std.specs.Prelude.{◌≡◌, refl, Bool, true, false, cond, List, [], ◌∷◌, ◌≢◌, ℕ, ◌-◌, ◌/◌, ◌≤◌, leb, ℤ, pos, length, replicate, Option as Maybe, Some, None, Result, Ok, Err}
use Rattle.std.proofs.Common.{sym, ap, subst, ◌∙◌, arith}
use Rattle.std.proofs.Math.Option.{Option, none, some}
use Rattle.whole.specs.Tests.{differ}
use Rattle.scope.specs.Limits.{stated, most_halves}
use Rattle.scope.specs.Planes as scope-planes
use Rattle.scope.specs.Planes.{Point}
use Rattle.planes.specs.Values.{plane}
use Rattle.planes.specs.declared.Plane.{Plane}
use Rattle.scope.specs.Section.{section}
use Rattle.scope.specs.Solids.{Tables, Reply}
use Rattle.scope.specs.Text.{text}
use Rattle.scope.specs.Judging.{Rooms, Verdict, accepted, refusal, judge, judge_lent}
use Rattle.scope.specs.Answers.{Answer, given, refused, left, flat_planes, solid_then, write_answer, bounds_by, no_faults, section_by, quads, quads_then, section_answer, PointBy, bad_solid, bad_point, operand_rooms}
use Rattle.scope.specs.Answers as scope
use Rattle.theory.specs.Numbers.{judge_number, lent_number, order_number, merge_number, form_number, work_number}
use Rattle.tables.specs.declared.Solid.{Solid}
use Rattle.theory.specs.Text.Lent.{lent}
use Rattle.points.specs.declared.Place.TheVariants.{In, Out, On}
use Rattle.points.specs.declared.Place.{Place}
use Rattle.points.specs.Promises.{Tells}
use Rattle.sections.specs.Values.{section_of}
use Rattle.sections.specs.Promises.{answer_to, SectionTold}
use Rattle.lines.specs.Reading.{rooms}
use Rattle.solids.specs.Reading.{judgement, ReadTold}
use Rattle.solids.specs.Writing.{wrote, itself, WriteTold}
use Rattle.solids.specs.Follows.{read_refusal, write_refusal}
use Rattle.outputs.specs.Outputs.{in_room}
use Rattle.results.specs.Results.{Asked, merge_of, form_of, Right, rooms as results-rooms, Told}
use Rattle.results.specs.Follows.{told_refusal}
use Rattle.texts.specs.Answers.{Job, merging, forming, unread, merged_text, formed_text, AnswerTo}
use Rattle.zones.specs.Promises.{TextTold}
use Rattle.skopelyne.specs.Numbers.{given_as, read_as, written_as, section_as, point_as}
use Rattle.skopelyne.specs.Exports.{GivenOut, ReadOut, WriteOut, TextOut, SectionOut, PointOut}

none_below : {k : ℕ} → 1 ≤ k → k ≡ 0 → ⊥
none_below h e = absurd (omega (arith, h, e))

-- ---- merge and normal form of lent tables

right_number : (q : Asked) (work : ℕ) (s : Rooms) (k : ℕ) → Right q work s (refused k) → 1 ≤ k
right_number (merge_of o A B) work s k m = work_number (λ b p e. merge_number (λ n l d. lent_number A d) (λ n l d. lent_number B d) p e) m refl
right_number (form_of A) work s k m = work_number (λ b p e. form_number (λ n l d. lent_number A d) p e) m refl

module _ {q : Asked} {xs xs' : List ℤ} {ns ns' : List ℕ} {w w' : List ℤ} {k p n r : ℕ} (h : GivenOut q xs xs' ns ns' w w' k p n r) where
  pub given_zero : k ≡ 0 → (s : Solid) × (h.answer ≡ Ok s)
  given_zero e = by h.answer refl
    where
      by : (g : Result Solid ℕ) → h.answer ≡ g → (s : Solid) × (h.answer ≡ Ok s)
      by (Ok s) f = (s, f)
      by (Err j) f = absurd (none_below (right_number q (length w) (results-rooms xs ns) j (told_refusal (subst (Told q xs xs' ns ns' w w') f h.promise)).when) (sym (ap (λ g. (given_as g).number) f) ∙ sym h.counted.number ∙ e))

  pub given_refused : k ≢ 0 → (p ≡ 0) × (n ≡ 0) × (r ≡ 0) × (xs' ≡ replicate (length xs) (pos 0)) × (ns' ≡ replicate (length ns) 0) × (w' ≡ replicate (length w) (pos 0))
  given_refused d = by h.answer refl
    where
      by : (g : Result Solid ℕ) → h.answer ≡ g → (p ≡ 0) × (n ≡ 0) × (r ≡ 0) × (xs' ≡ replicate (length xs) (pos 0)) × (ns' ≡ replicate (length ns) 0) × (w' ≡ replicate (length w) (pos 0))
      by (Ok s) f = absurd (d (h.counted.number ∙ ap (λ g. (given_as g).number) f))
      by (Err j) f =
          let z = told_refusal (subst (Told q xs xs' ns ns' w w') f h.promise) in
          (h.counted.planes ∙ ap (λ g. (given_as g).planes) f, h.counted.nodes ∙ ap (λ g. (given_as g).nodes) f, h.counted.root ∙ ap (λ g. (given_as g).root) f, z.planes, z.nodes, z.work)

-- ---- reading

read_number : {t : List ℕ} {xs xs' : List ℤ} {ns ns' : List ℕ} {w w' : List ℤ} {k l : ℕ} → ReadTold t xs xs' ns ns' w w' (Err (k, l)) → 1 ≤ k
read_number {t} {xs} {ns = ns} {w = w} {k = k} {l = l} h = by (leb 4096 (length w)) (judge (rooms xs ns) t) refl h.answer
  where
    by : (b : Bool) (v : Verdict) → judge (rooms xs ns) t ≡ v → Err (k, l) ≡ judgement (cond b v (refusal 8 0)) → 1 ≤ k
    by false v f e = let p : ◌≡◌ {A = ℕ × ℕ} (k, l) (8, 0) = cc in let d : k ≡ 8 = ap (λ p. p.0) p in omega (arith, d)
    by true (accepted a) f e = differ (cc)
    by true (refusal m j) f e = let p : ◌≡◌ {A = ℕ × ℕ} (k, l) (m, j) = cc in let d : k ≡ m = ap (λ p. p.0) p in omega (arith, d, judge_number (rooms xs ns) t f)

module _ {t : List ℕ} {xs xs' : List ℤ} {ns ns' : List ℕ} {w w' : List ℤ} {k p n r : ℕ} (h : ReadOut t xs xs' ns ns' w w' k p n r) where
  pub read_zero : k ≡ 0 → (s : Solid) × (h.answer ≡ Ok s)
  read_zero e = by h.answer refl
    where
      by : (j : Result Solid (ℕ × ℕ)) → h.answer ≡ j → (s : Solid) × (h.answer ≡ Ok s)
      by (Ok s) f = (s, f)
      by (Err (m, l)) f = absurd (none_below (read_number (subst (ReadTold t xs xs' ns ns' w w') f h.promise)) (sym (ap (λ j. (read_as j).number) f) ∙ sym h.counted.number ∙ e))

  pub read_refused : k ≢ 0 → (p ≡ 0) × (n ≡ 0) × (r ≡ 0) × (xs' ≡ replicate (length xs) (pos 0)) × (ns' ≡ replicate (length ns) 0) × (w' ≡ replicate (length w) (pos 0))
  read_refused d = by h.answer refl
    where
      by : (j : Result Solid (ℕ × ℕ)) → h.answer ≡ j → (p ≡ 0) × (n ≡ 0) × (r ≡ 0) × (xs' ≡ replicate (length xs) (pos 0)) × (ns' ≡ replicate (length ns) 0) × (w' ≡ replicate (length w) (pos 0))
      by (Ok s) f = absurd (d (h.counted.number ∙ ap (λ j. (read_as j).number) f))
      by (Err (m, l)) f =
          let z = read_refusal (subst (ReadTold t xs xs' ns ns' w w') f h.promise) in
          (h.counted.planes ∙ ap (λ j. (read_as j).planes) f, h.counted.nodes ∙ ap (λ j. (read_as j).nodes) f, h.counted.root ∙ ap (λ j. (read_as j).root) f, z.0, z.1, z.2)

-- ---- writing, and the calls on texts

no_entries : {A : Type 0} (o : A) (n : ℕ) → replicate (n - 0) o ≡ replicate n o
no_entries o n = ap (λ k. replicate k o) {x = n - 0} {y = n} (omega arith)

-- an answer that was written as a number is its refusal
refused_of : {k : ℕ} (a : Answer (List ℕ)) → Err k ≡ wrote a → a ≡ refused k
refused_of {k} (given x) e = differ (cc)
refused_of {k} (refused m) e = let d : k ≡ m = cc in ap refused (sym d)

write_number : {xs : List ℤ} {ns : List ℕ} {r : ℕ} {u u' : List ℕ} {w w' : List ℤ} {k : ℕ} → WriteTold xs ns r u u' w w' (Err k) → 1 ≤ k
unfolding write_answer
write_number {xs} {ns} {r} {u} {w = w} {k = k} h = by (leb 4096 (length w)) (judge_lent (lent xs ns r)) refl (refused_of (write_answer (length w) (length u) (lent xs ns r)) h.answer)
  where
    fits : (b : Bool) (a : Tables) → cond b (given (text a)) (refused 8) ≡ refused k → 1 ≤ k
    fits true a e = differ (cc)
    fits false a e = let d : ◌≡◌ {A = ℕ} 8 k = cc in omega (arith, d)

    by : (b : Bool) (v : Verdict) → judge_lent (lent xs ns r) ≡ v → cond b (solid_then v (λ a. cond (leb (length (text a)) (length u)) (given (text a)) (refused 8))) (refused 8) ≡ refused k → 1 ≤ k
    by false v f e = let d : ◌≡◌ {A = ℕ} 8 k = cc in omega (arith, d)
    by true (accepted a) f e = fits (leb (length (text a)) (length u)) a e
    by true (refusal m j) f e = let d : m ≡ k = cc in omega (arith, d, lent_number (lent xs ns r) f)

-- the text of a refusal, or 8 for want of room
room_number : (room : ℕ) (a : Answer Tables) {k : ℕ} → ((j : ℕ) → a ≡ refused j → 1 ≤ j) → in_room room a ≡ refused k → 1 ≤ k
room_number room (given a) {k} f e = by (leb (length (text a)) room) e
  where
    by : (b : Bool) → cond b (given (text a)) (refused 8) ≡ refused k → 1 ≤ k
    by true e = differ (cc)
    by false e = let d : ◌≡◌ {A = ℕ} 8 k = cc in omega (arith, d)
room_number room (refused j) {k} f e = let d : j ≡ k = cc in omega (arith, d, f j refl)

taken : (a : Tables) (n l : ℕ) → accepted a ≡ refusal n l → 1 ≤ n
taken a n l e = differ (cc)

answer_number : (job : Job) (t : List ℕ) (room : ℕ) (a : Answer (List ℕ)) {k : ℕ} → AnswerTo job t room a → a ≡ refused k → 1 ≤ k
answer_number merging t room _ {k} (unread {n = n} d) e = let f : n ≡ k = cc in omega (arith, f, order_number operand_rooms t d)
answer_number merging t room _ (merged_text {a = a} {b = b} {r = r} d m) e = room_number room r (λ j f. merge_number (taken a) (taken b) m f) e
answer_number forming t room _ (formed_text {r = r} m) e = room_number room r (λ j f. form_number (λ n l d. judge_number operand_rooms t d) m f) e

text_number : {job : Job} {t out out' : List ℕ} {w w' : List ℤ} {k : ℕ} → TextTold job t out out' w w' (Err k) → 1 ≤ k
text_number {job} {t} {out} h = work_number (λ b p e. answer_number job t (length out) b p e) h.exact (refused_of h.answer h.told)

text_zeros : {job : Job} {t out out' : List ℕ} {w w' : List ℤ} {k : ℕ} → TextTold job t out out' w w' (Err k) → (out' ≡ replicate (length out) 0) × (w' ≡ replicate (length w) (pos 0))
text_zeros {out = out} h = (h.text ∙ ap (left 0 (length out) itself) (refused_of h.answer h.told) ∙ no_entries 0 (length out), h.work)

-- an answer that has a number is refused; 0 is no such number
wrote_zero : (P : Result ℕ ℕ → Type 0) (k : ℕ) → ((j : ℕ) → P (Err j) → 1 ≤ j) → (a : Result ℕ ℕ) → P a → k ≡ (written_as a).0 → k ≡ 0 → (m : ℕ) × (a ≡ Ok m)
wrote_zero P k above (Ok m) p f e = (m, refl)
wrote_zero P k above (Err j) p f e = absurd (none_below (above j p) (sym f ∙ e))

wrote_refused : (P : Result ℕ ℕ → Type 0) (Z : Type 0) (k n : ℕ) → ((j : ℕ) → P (Err j) → Z) → (a : Result ℕ ℕ) → P a → k ≡ (written_as a).0 → n ≡ (written_as a).1 → k ≢ 0 → (n ≡ 0) × Z
wrote_refused P Z k n zeros (Ok m) p f g d = absurd (d f)
wrote_refused P Z k n zeros (Err j) p f g d = (g, zeros j p)

module _ {xs : List ℤ} {ns : List ℕ} {r : ℕ} {u u' : List ℕ} {w w' : List ℤ} {k n : ℕ} (h : WriteOut xs ns r u u' w w' k n) where
  pub write_zero : k ≡ 0 → (m : ℕ) × (h.answer ≡ Ok m)
  write_zero = wrote_zero (WriteTold xs ns r u u' w w') k (λ j p. write_number p) h.answer h.promise h.number

  pub write_refused : k ≢ 0 → (n ≡ 0) × (u' ≡ replicate (length u) 0) × (w' ≡ replicate (length w) (pos 0))
  write_refused d = let z = wrote_refused (WriteTold xs ns r u u' w w') ((u' ≡ replicate (length u) 0) × (w' ≡ replicate (length w) (pos 0))) k n (λ j p. write_refusal p) h.answer h.promise h.number h.length d in (z.0, z.1.0, z.1.1)

module _ {job : Job} {t u u' : List ℕ} {w w' : List ℤ} {k n : ℕ} (h : TextOut job t u u' w w' k n) where
  pub text_zero : k ≡ 0 → (m : ℕ) × (h.answer ≡ Ok m)
  text_zero = wrote_zero (TextTold job t u u' w w') k (λ j p. text_number p) h.answer h.promise h.number

  pub text_refused : k ≢ 0 → (n ≡ 0) × (u' ≡ replicate (length u) 0) × (w' ≡ replicate (length w) (pos 0))
  text_refused d = let z = wrote_refused (TextTold job t u u' w w') ((u' ≡ replicate (length u) 0) × (w' ≡ replicate (length w) (pos 0))) k n (λ j p. text_zeros p) h.answer h.promise h.number h.length d in (z.0, z.1.0, z.1.1)

-- ---- points

point_number : {xs : List ℤ} {ns : List ℕ} {r : ℕ} {X : Point} {w w' : List ℤ} {k : ℕ} → Tells xs ns r X w w' (Err k) → 1 ≤ k
point_number {xs} {ns} {r} {X} h = work_number (λ b p e. by p e) h.answer refl
  where
    by : {b : Answer Reply} {k : ℕ} → PointBy (lent xs ns r) X b → b ≡ refused k → 1 ≤ k
    by {k = k} (bad_solid {n = n} d) e = let f : n ≡ k = cc in omega (arith, f, lent_number (lent xs ns r) d)
    by {k = k} (bad_point t d n) e = let f : ◌≡◌ {A = ℕ} 10 k = cc in omega (arith, f)
    by (scope.told t d o) e = differ (cc)

module _ {xs : List ℤ} {ns : List ℕ} {r : ℕ} {X : Point} {w w' : List ℤ} {k n : ℕ} (h : PointOut xs ns r X w w' k n) where
  pub point_zero : k ≡ 0 → n ≢ 0
  point_zero e d = by h.answer h.promise h.number h.place
    where
      by : (a : Result Place ℕ) → Tells xs ns r X w w' a → k ≡ (point_as a).0 → n ≡ (point_as a).1 → ⊥
      by (Ok In) p f g = absurd (omega (arith, g, d))
      by (Ok Out) p f g = absurd (omega (arith, g, d))
      by (Ok On) p f g = absurd (omega (arith, g, d))
      by (Err j) p f g = none_below (point_number p) (sym f ∙ e)

  pub point_refused : k ≢ 0 → (n ≡ 0) × (w' ≡ replicate (length w) (pos 0))
  point_refused d = by h.answer h.number h.place
    where
      by : (a : Result Place ℕ) → k ≡ (point_as a).0 → n ≡ (point_as a).1 → (n ≡ 0) × (w' ≡ replicate (length w) (pos 0))
      by (Ok In) f g = absurd (d f)
      by (Ok Out) f g = absurd (d f)
      by (Ok On) f g = absurd (d f)
      by (Err j) f g = (g, h.promise.zeros)

-- ---- sections

-- 8 for want of room
bounds_number : (room : ℕ) (l : List scope-planes.Plane) {k : ℕ} → bounds_by room l ≡ refused k → 1 ≤ k
bounds_number room [] e = differ (cc)
bounds_number room (b ∷ l) {k} e = by (leb (length (b ∷ l)) room) e
  where
    by : (c : Bool) → cond c (given (b ∷ l)) (refused 8) ≡ refused k → 1 ≤ k
    by true e = differ (cc)
    by false e = let d : ◌≡◌ {A = ℕ} 8 k = cc in omega (arith, d)

-- 3, then 4
halves_number : (room : ℕ) (s : scope-planes.Plane) (hs : List scope-planes.Plane) {k : ℕ} → section_by room s hs ≡ refused k → 1 ≤ k
unfolding section_by
halves_number room s hs {k} e = by (leb (length hs) most_halves) (no_faults (s ∷ hs)) e
  where
    by : (b c : Bool) → cond b (cond c (bounds_by room (section s hs)) (refused 4)) (refused 3) ≡ refused k → 1 ≤ k
    by true true e = bounds_number room (section s hs) e
    by true false e = let d : ◌≡◌ {A = ℕ} 4 k = cc in omega (arith, d)
    by false c e = let d : ◌≡◌ {A = ℕ} 3 k = cc in omega (arith, d)

-- 8 for a short work table, then 2
section_number : (work room : ℕ) (s : scope-planes.Plane) (hs : List ℤ) {k : ℕ} → section_answer work room s hs ≡ refused k → 1 ≤ k
unfolding section_answer
section_number work room s hs {k} e = by (leb stated work) (quads hs) e
  where
    by : (b : Bool) (q : Option (List scope-planes.Plane)) → cond b (quads_then q (section_by (room / 4) s)) (refused 8) ≡ refused k → 1 ≤ k
    by true (some l) e = halves_number (room / 4) s l e
    by true none e = let d : ◌≡◌ {A = ℕ} 2 k = cc in omega (arith, d)
    by false q e = let d : ◌≡◌ {A = ℕ} 8 k = cc in omega (arith, d)

section_zeros : {s : Plane} {hs bs bs' w w' : List ℤ} {k : ℕ} → SectionTold s hs bs bs' w w' (Err k) → (bs' ≡ replicate (length bs) (pos 0)) × (w' ≡ replicate (length w) (pos 0))
section_zeros {s} {hs} {bs} {w = w} {k = k} h = (h.bounds_left ∙ ap (left (pos 0) (length bs) flat_planes) (by (answer_to s hs bs w) h.answer) ∙ no_entries (pos 0) (length bs), h.work_left ∙ no_entries (pos 0) (length w))
  where
    by : (a : Answer (List scope-planes.Plane)) → Err k ≡ section_of a → a ≡ refused k
    by (given []) e = differ (cc)
    by (given (b ∷ l)) e = differ (cc)
    by (refused m) e = let d : k ≡ m = cc in ap refused (sym d)

module _ {s : Plane} {hs bs bs' w w' : List ℤ} {k n : ℕ} (h : SectionOut s hs bs bs' w w' k n) where
  -- bounds, or none, which is Nothing
  pub section_zero : k ≡ 0 → (l : List scope-planes.Plane) × (answer_to s hs bs w ≡ given l)
  section_zero e = by (answer_to s hs bs w) refl
    where
      by : (a : Answer (List scope-planes.Plane)) → answer_to s hs bs w ≡ a → (l : List scope-planes.Plane) × (answer_to s hs bs w ≡ given l)
      by (given l) f = (l, f)
      by (refused j) f = absurd (none_below (section_number (length w) (length bs) (plane s) hs f) (sym (h.number ∙ ap (λ a. (section_as a).0) (h.promise.answer ∙ ap section_of f)) ∙ e))

  pub section_refused : k ≢ 0 → (n ≡ 0) × (bs' ≡ replicate (length bs) (pos 0)) × (w' ≡ replicate (length w) (pos 0))
  section_refused d = by h.answer h.promise h.number h.count
    where
      by : (a : Result (Maybe ℕ) ℕ) → SectionTold s hs bs bs' w w' a → k ≡ (section_as a).0 → n ≡ (section_as a).1 → (n ≡ 0) × (bs' ≡ replicate (length bs) (pos 0)) × (w' ≡ replicate (length w) (pos 0))
      by (Ok (Some m)) p f g = absurd (d f)
      by (Ok None) p f g = absurd (d f)
      by (Err j) p f g = let z = section_zeros p in (g, z.0, z.1)
