-- What follows from the promises of the merge and of the normal form of a text.
--     text_told_unique     no second answer, and no second table, meets them
--     Prints, program_text   with room for the longest text of a solid, what is shown is what document 01's program prints
--     Normals, same_bytes_same_space   demand 3: two normal forms are the same bytes exactly when the solids are the same space
use Rattle.std.specs.Prelude.{◌≡◌, refl, Bool, true, false, cond, List, ◌≢◌, ◌↔◌, ℕ, ◌-◌, ◌≤◌, T, leb, ℤ, length, take, replicate, Result, Ok, Err}
use Rattle.std.proofs.Common.{sym, ap, subst, ◌∙◌, arith, le-leb}
use Rattle.std.proofs.Math.Seq.{take-append_seam}
use Rattle.whole.specs.Tests.{differ}
use Rattle.scope.specs.Limits.{stated}
use Rattle.scope.specs.Planes.{Point}
use Rattle.scope.specs.Solids.{Tree, planes, Tables, tables_of, answer as answers}
use Rattle.scope.specs.Cells.{Inside, box, Off}
use Rattle.scope.specs.Text.{text, text_of, refusal_line}
use Rattle.scope.specs.Judging.{accepted, judge}
use Rattle.scope.specs.Answers.{Answer, given, refused, left, WithWork, short_work, enough_work, MergeBy, FormBy, printed, MergeText, FormText, operand_rooms, program_rooms}
use Rattle.scope.specs.Answers as scope
use Rattle.theory.specs.Answers.{sound_tables, solid_lawful, with_unique, merge_by_unique, form_by_unique, text_sound}
use Rattle.theory.specs.Theorems.{same_text_same_space, Apart, forms_apart}
use Rattle.theory.specs.Text.MergeInput.{merge_read}
use Rattle.theory.specs.Text.Sizes.{text_length}
use Rattle.theory.specs.Text.Trees.{LawfulTables}
use Rattle.solids.specs.Writing.{wrote, itself}
use Rattle.outputs.specs.Outputs.{in_room}
use Rattle.texts.specs.Answers.{Job, merging, forming, MergedText, unread, merged_text, FormedText, formed_text, AnswerTo}
use Rattle.texts.specs.Lawful.{merge_lawful, FormGiven, form_given, form_given_lawful}
use Rattle.zones.specs.Promises.{TextTold}

-- ---- no second answer

module _ {t : List ℕ} {room : ℕ} where
  one_merge : (q r : Answer (List ℕ)) → MergedText t room q → MergedText t room r → q ≡ r
  one_merge x y (unread d) (unread e) = cc
  one_merge x y (unread d) (merged_text e m) = differ (cc)
  one_merge x y (merged_text d m) (unread e) = differ (cc)
  one_merge x y (merged_text {o = o} {a = a} {b = b} {r = q} d m) (merged_text {o = p} {a = c} {b = f} {r = r} e n) =
      let i : p ≡ o = cc in
      let j : c ≡ a = cc in
      let k : f ≡ b = cc in
      let l = (merge_read operand_rooms t o a b d).lawful in
      ap (in_room room) (merge_by_unique program_rooms o (sound_tables l.lawful_a) (sound_tables l.lawful_b) q r m (subst (λ z. MergeBy program_rooms z (accepted a) (accepted b) r) i (subst (λ z. MergeBy program_rooms p (accepted z) (accepted b) r) j (subst (λ z. MergeBy program_rooms p (accepted c) (accepted z) r) k n))))

  one_form : (q r : Answer (List ℕ)) → FormedText t room q → FormedText t room r → q ≡ r
  one_form x y (formed_text {r = q} m) (formed_text {r = r} n) = ap (in_room room) (form_by_unique program_rooms (text_sound operand_rooms t) q r m n)

one_answer : (job : Job) (t : List ℕ) (room : ℕ) (q r : Answer (List ℕ)) → AnswerTo job t room q → AnswerTo job t room r → q ≡ r
one_answer merging t room = one_merge
one_answer forming t room = one_form

pub text_told_unique : {job : Job} {t out out' out'' : List ℕ} {w w' w'' : List ℤ} {i j : Result ℕ ℕ} → TextTold job t out out' w w' i → TextTold job t out out'' w w'' j → (i ≡ j) × (out' ≡ out'') × (w' ≡ w'')
text_told_unique {job} {t} {out} h k =
    let e : h.answer ≡ k.answer = with_unique (one_answer job t (length out)) h.exact k.exact in
    (h.told ∙ ap wrote e ∙ sym k.told, h.text ∙ ap (left 0 (length out) itself) e ∙ sym k.text, h.work ∙ sym k.work)

-- ---- what the programs print

-- the bytes of an answer
abbrev bytes_of : Answer (List ℕ) → List ℕ
bytes_of (given x) = x
bytes_of (refused n) = refusal_line n

room_for : (room : ℕ) → 14488 ≤ room → (r : Answer Tables) → ((a : Tables) → r ≡ given a → LawfulTables a) → bytes_of (in_room room r) ≡ printed r
room_for room h (refused k) l = refl
room_for room h (given a) l = ap (λ b. bytes_of (cond b (given (text a)) (refused 8))) (le-leb (length (text a)) room (omega (arith, h, text_length a (l a refl))))

-- the bytes that a program prints
abbrev pub Prints : Job → List ℕ → List ℕ → Type 0
Prints merging t = MergeText t
Prints forming t = FormText t

answer_text : (job : Job) (t : List ℕ) (room : ℕ) (x : Answer (List ℕ)) → 14488 ≤ room → AnswerTo job t room x → Prints job t (bytes_of x)
answer_text merging t room x h (unread e) = scope.unread e
answer_text merging t room x h (merged_text {o = o} {a = a} {b = b} {r = r} e m) =
    let l = (merge_read operand_rooms t o a b e).lawful in
    subst (MergeText t) (sym (room_for room h r (λ c f. merge_lawful (sound_tables l.lawful_a) (sound_tables l.lawful_b) m f))) (scope.merged_text e m)
answer_text forming t room x h (formed_text {r = r} m) = subst (FormText t) (sym (room_for room h r (λ c f. form_given_lawful (text_sound operand_rooms t) m f))) (scope.formed_text m)

-- what a program shows of an answer and of the text lent for it: so many bytes, or one 0F line
abbrev pub shown : Result ℕ ℕ → List ℕ → List ℕ
shown (Ok n) out' = take n out'
shown (Err k) out' = refusal_line k

shows : (out : List ℕ) (x : Answer (List ℕ)) → shown (wrote x) (left 0 (length out) itself x) ≡ bytes_of x
shows out (given x) = take-append_seam x (replicate (length out - length x) 0)
shows out (refused k) = refl

enough_for : {work : ℕ} {P : Answer (List ℕ) → Type 0} {x : Answer (List ℕ)} → stated ≤ work → WithWork work P x → P x
enough_for {work} e (short_work n) = absurd (n (subst T (sym (le-leb stated work e)) tt))
enough_for e (enough_work u p) = p

pub program_text : {job : Job} {t out out' : List ℕ} {w w' : List ℤ} {r : Result ℕ ℕ} → TextTold job t out out' w w' r → stated ≤ length w → 14488 ≤ length out → Prints job t (shown r out')
program_text {job} {t} {out} h e room = subst (Prints job t) (sym ((λ i. shown (h.told i) (h.text i)) ∙ shows out h.answer)) (answer_text job t (length out) h.answer room (enough_for e h.exact))

-- ---- demand 3

-- two solids, which their texts fix (`solid_unique`), and their normal forms as bytes: the same bytes exactly when no point strictly in the
-- box, off the planes of both, is in one solid and out of the other; other bytes, and there is such a point
pub record Normals (t u bytes bytes' : List ℕ) : Type 0 where
  pub first : Tree
  pub first_is : judge operand_rooms t ≡ accepted (tables_of first)
  pub second : Tree
  pub second_is : judge operand_rooms u ≡ accepted (tables_of second)
  pub same : (bytes ≡ bytes') ↔ ((X : Point) → Inside box X → Off (planes first) X → Off (planes second) X → answers first X ≡ answers second X)
  pub apart : bytes ≢ bytes' → Apart first second

-- a normal form that was shown as n bytes
record Shown (t out out' : List ℕ) (n : ℕ) : Type 0 where
  pub is : Tables
  pub form : FormGiven (judge operand_rooms t) is
  pub bytes : take n out' ≡ text is

was_shown : {t out out' : List ℕ} {w w' : List ℤ} {n : ℕ} → TextTold forming t out out' w w' (Ok n) → Shown t out out' n
was_shown {t} {out} {out'} {w} {n = n} h = with_work h.exact refl
  where
    none : {k : ℕ} → h.answer ≡ refused k → Shown t out out' n
    none {k} e = let d : ◌≡◌ {A = Result ℕ ℕ} (Ok n) (Err k) = h.told ∙ ap wrote e in differ (cc)

    by : (r : Answer Tables) → FormBy program_rooms (judge operand_rooms t) r → h.answer ≡ in_room (length out) r → Shown t out out' n
    by (refused k) m e = none e
    by (given c) m e = fits (leb (length (text c)) (length out)) refl
      where
        fits : (b : Bool) → leb (length (text c)) (length out) ≡ b → Shown t out out' n
        fits false d = none (e ∙ ap (λ b. cond b (given (text c)) (refused 8)) d)
        fits true d =
            let f = e ∙ ap (λ b. cond b (given (text c)) (refused 8)) d in
            record { is = c; form = form_given (text_sound operand_rooms t) m refl; bytes = (λ i. shown (h.told i) (h.text i)) ∙ shows out h.answer ∙ ap bytes_of f }

    with_work : {x : Answer (List ℕ)} → WithWork (length w) (FormedText t (length out)) x → h.answer ≡ x → Shown t out out' n
    with_work (short_work k) e = none e
    with_work (enough_work k (formed_text {r = r} m)) e = by r m e

pub same_bytes_same_space : {t u out out' out₁ out₁' : List ℕ} {w w' w₁ w₁' : List ℤ} {n m : ℕ} → TextTold forming t out out' w w' (Ok n) → TextTold forming u out₁ out₁' w₁ w₁' (Ok m) → Normals t u (take n out') (take m out₁')
unfolding text_of
same_bytes_same_space {t} {u} h k =
    let a = was_shown h in
    let b = was_shown k in
    let f = a.form in
    let g = b.form in
    let e = a.bytes ∙ ap text (sym f.is) in
    let d = b.bytes ∙ ap text (sym g.is) in
    let lf = solid_lawful (text_sound operand_rooms t) f.solid_is in
    let lg = solid_lawful (text_sound operand_rooms u) g.solid_is in
    let s = same_text_same_space lf lg f.right g.right f.lawful g.lawful in
    record { first = f.solid; first_is = f.solid_is; second = g.solid; second_is = g.solid_is; same = (λ x. s.0 (sym e ∙ x ∙ d), λ x. e ∙ s.1 x ∙ sym d); apart = λ n. forms_apart lf lg f.right g.right (λ x. n (e ∙ ap text_of x ∙ sym d)) }
