-- The answers that document 01 gives as relations, for a point, a merge, a normal form and the merge of a text: every input has exactly one.
--     lent_sound                         tables that are lent and accepted are lawful
--     solid, solid_unique                an accepted solid is one lawful tree
--     point_some, point_unique           the point call
--     merge_some, merge_answer_unique    the merge of lent tables
--     form_some, form_answer_unique      the normal form
--     text_some, text_unique             the merge of a text
--     form_text_some, form_text_unique   the normal form of a text
--     same_space_same_answer, same_space_same_text   two solids that are the same space get the same normal form, or the same refusal
use Rattle.std.specs.Prelude.{◌≡◌, refl, Bool, true, false, List, ℕ, T, leb}
use Rattle.std.proofs.Common.{sym, ap, subst, ◌∙◌}
use Rattle.whole.specs.Tests.{differ}
use Rattle.scope.specs.Limits.{stated}
use Rattle.scope.specs.Planes.{Point}
use Rattle.scope.specs.Solids.{Tree, planes, Tables, tables_of, LawfulTree, Reply, answer}
use Rattle.scope.specs.Cells.{Inside, box, Off, Operation, Merged}
use Rattle.scope.specs.Text.{operation_code}
use Rattle.scope.specs.Normal.{NormalForm}
use Rattle.scope.specs.Judging.{Rooms, Verdict, accepted, refusal, Lent, judge_lent, MergeInput, order, order_refused, known, judge, judge_merge}
use Rattle.scope.specs.Answers.{Answer, refused, WithWork, short_work, enough_work, point_ok, PointBy, bad_solid, bad_point, told, PointAnswer, tree_answer, MergeBy, no_operation, a_refused, b_refused, merged, MergeAnswer, FormBy, solid_refused, formed, FormAnswer, printed, operand_rooms, program_rooms, MergeText, unread, merged_text, FormText, formed_text}
use Rattle.theory.specs.Text.Build.{tree_of}
use Rattle.theory.specs.Text.Trees.{LawfulTables, lawful_back, tree_tables, tables_tree}
use Rattle.theory.specs.Text.MergeInput.{operation_of, operation_known, operation_one, merge_read}
use Rattle.theory.specs.Text.Judge.{judge_read}
use Rattle.theory.specs.Text.Lent.{lent_taken}
use Rattle.theory.specs.Theorems.{merge, merge_unique, form, form_unique, same_form_same_space}

-- ---- a solid that is accepted

pub record Sound (v : Verdict) : Type 0 where
  pub lawful : (a : Tables) → v ≡ accepted a → LawfulTables a

pub lent_sound : (A : Lent) → Sound (judge_lent A)
lent_sound A = record { lawful = λ a e. (lent_taken A.planes A.nodes A.root a e).1 }

pub sound_tables : {a : Tables} → LawfulTables a → Sound (accepted a)
sound_tables {a} l = record { lawful = λ b e. subst LawfulTables (same e) l }
  where
    same : {b : Tables} → accepted a ≡ accepted b → a ≡ b
    same e = cc

module _ {v : Verdict} (s : Sound v) where
  pub solid_lawful : {t : Tree} → v ≡ accepted (tables_of t) → LawfulTree t
  solid_lawful {t} e = lawful_back t (s.lawful (tables_of t) e)

  pub solid : (a : Tables) → v ≡ accepted a → (t : Tree) × (v ≡ accepted (tables_of t))
  solid a e = (tree_of a, e ∙ ap accepted (sym (tables_tree a (s.lawful a e))))

  pub solid_unique : {t u : Tree} → v ≡ accepted (tables_of t) → v ≡ accepted (tables_of u) → t ≡ u
  solid_unique {t} {u} d e =
      let f : tables_of t ≡ tables_of u = cc in
      sym (tree_tables t (solid_lawful d)) ∙ ap tree_of f ∙ tree_tables u (solid_lawful e)

-- a verdict is one of two
either : {P : Type 0} (v : Verdict) → ((a : Tables) → v ≡ accepted a → P) → ((n l : ℕ) → v ≡ refusal n l → P) → P
either (accepted a) f g = f a refl
either (refusal n l) f g = g n l refl

test : {P : Type 0} (b : Bool) → (T b → P) → (¬ T b → P) → P
test true f g = f tt
test false f g = g (λ t. t)

-- ---- the work table

with_some : {A : Type 0} (work : ℕ) {P : Answer A → Type 0} → (r : Answer A) × P r → (r : Answer A) × WithWork work P r
with_some work p = test (leb stated work) (λ t. (p.0, enough_work t p.1)) (λ n. (refused 8, short_work n))

pub with_unique : {A : Type 0} {work : ℕ} {P : Answer A → Type 0} → ((q r : Answer A) → P q → P r → q ≡ r) → {q r : Answer A} → WithWork work P q → WithWork work P r → q ≡ r
with_unique f (short_work n) (short_work m) = refl
with_unique f (short_work n) (enough_work t p) = absurd (n t)
with_unique f (enough_work t p) (short_work n) = absurd (n t)
with_unique f (enough_work {r = q} t p) (enough_work {r = r} u o) = f q r p o

-- ---- points

module _ (A : Lent) (X : Point) where
  pub point_some : (work : ℕ) → (r : Answer Reply) × PointAnswer work A X r
  point_some work = with_some work (either (judge_lent A) yes_solid (λ n l e. (refused n, bad_solid e)))
    where
      yes_solid : (a : Tables) → judge_lent A ≡ accepted a → (r : Answer Reply) × PointBy A X r
      yes_solid a e = let t = solid (lent_sound A) a e in test (point_ok X) (λ o. (_, told t.0 t.1 o)) (λ n. (refused 10, bad_point t.0 t.1 n))

  by_unique : (q r : Answer Reply) → PointBy A X q → PointBy A X r → q ≡ r
  by_unique q r (bad_solid d) (bad_solid e) = cc
  by_unique q r (bad_solid d) (bad_point u e n) = differ (cc)
  by_unique q r (bad_solid d) (told u e o) = differ (cc)
  by_unique q r (bad_point t d n) (bad_solid e) = differ (cc)
  by_unique q r (bad_point t d n) (bad_point u e m) = refl
  by_unique q r (bad_point t d n) (told u e o) = absurd (n o)
  by_unique q r (told t d o) (bad_solid e) = differ (cc)
  by_unique q r (told t d o) (bad_point u e n) = absurd (n o)
  by_unique q r (told t d o) (told u e p) = cc (solid_unique (lent_sound A) d e)

  pub point_unique : {work : ℕ} {q r : Answer Reply} → PointAnswer work A X q → PointAnswer work A X r → q ≡ r
  point_unique = with_unique by_unique

-- ---- merges

module _ (s : Rooms) (o : ℕ) {A B : Verdict} (a-sound : Sound A) (b-sound : Sound B) where
  merge_by : (r : Answer Tables) × MergeBy s o A B r
  merge_by = test (known o) (λ k. either A (λ a d. either B (both k a d) (λ n l e. (refused n, b_refused (solid a-sound a d).0 k (solid a-sound a d).1 e))) (λ n l d. (refused n, a_refused k d))) (λ n. (refused 7, no_operation n))
    where
      both : T (known o) → (a : Tables) → A ≡ accepted a → (b : Tables) → B ≡ accepted b → (r : Answer Tables) × MergeBy s o A B r
      both k a d b e =
          let x = operation_of o k in
          let t = solid a-sound a d in
          let u = solid b-sound b e in
          let m = merge x.0 (solid_lawful a-sound t.1) (solid_lawful b-sound u.1) in
          (tree_answer s m.0, merged x.0 t.0 u.0 m.0 x.1 t.1 u.1 m.1)

  merged_same : (x y : Operation) (a b t a' b' t' : Tree) → operation_code x ≡ o → operation_code y ≡ o → A ≡ accepted (tables_of a) → A ≡ accepted (tables_of a') → B ≡ accepted (tables_of b) → B ≡ accepted (tables_of b')
      → Merged x a b t → Merged y a' b' t' → t ≡ t'
  merged_same x y a b t a' b' t' i j d d' e e' m m' =
      let f : a' ≡ a = solid_unique a-sound d' d in
      let g : b' ≡ b = solid_unique b-sound e' e in
      let h : y ≡ x = operation_one y x (j ∙ sym i) in
      merge_unique x (solid_lawful a-sound d) (solid_lawful b-sound e) m (subst (λ z. Merged z a b t') h (subst (λ z. Merged y a z t') g (subst (λ z. Merged y z b' t') f m')))

  pub merge_by_unique : (q r : Answer Tables) → MergeBy s o A B q → MergeBy s o A B r → q ≡ r
  merge_by_unique q r (no_operation n) (no_operation m) = refl
  merge_by_unique q r (no_operation n) (a_refused k e) = absurd (n k)
  merge_by_unique q r (no_operation n) (b_refused a k d e) = absurd (n k)
  merge_by_unique q r (no_operation n) (merged x a b t i d e m) = absurd (n (subst (λ c. T (known c)) i (operation_known x)))
  merge_by_unique q r (a_refused k d) (no_operation m) = absurd (m k)
  merge_by_unique q r (a_refused k d) (a_refused l e) = cc
  merge_by_unique q r (a_refused k d) (b_refused a l e f) = differ (cc)
  merge_by_unique q r (a_refused k d) (merged x a b t i e f m) = differ (cc)
  merge_by_unique q r (b_refused a k d e) (no_operation m) = absurd (m k)
  merge_by_unique q r (b_refused a k d e) (a_refused l f) = differ (cc)
  merge_by_unique q r (b_refused a k d e) (b_refused b l f g) = cc
  merge_by_unique q r (b_refused a k d e) (merged x b c t i f g m) = differ (cc)
  merge_by_unique q r (merged x a b t i d e m) (no_operation n) = absurd (n (subst (λ c. T (known c)) i (operation_known x)))
  merge_by_unique q r (merged x a b t i d e m) (a_refused l f) = differ (cc)
  merge_by_unique q r (merged x a b t i d e m) (b_refused c l f g) = differ (cc)
  merge_by_unique q r (merged x a b t i d e m) (merged y a' b' t' j d' e' m') = ap (tree_answer s) (merged_same x y a b t a' b' t' i j d d' e e' m m')

module _ (s : Rooms) (o : ℕ) (A B : Lent) where
  pub merge_some : (work : ℕ) → (r : Answer Tables) × MergeAnswer work s o A B r
  merge_some work = with_some work (merge_by s o (lent_sound A) (lent_sound B))

  pub merge_answer_unique : {work : ℕ} {q r : Answer Tables} → MergeAnswer work s o A B q → MergeAnswer work s o A B r → q ≡ r
  merge_answer_unique = with_unique (merge_by_unique s o (lent_sound A) (lent_sound B))

-- ---- normal forms

module _ (s : Rooms) {A : Verdict} (sound : Sound A) where
  form_by : (r : Answer Tables) × FormBy s A r
  form_by = either A yes_solid (λ n l e. (refused n, solid_refused e))
    where
      yes_solid : (a : Tables) → A ≡ accepted a → (r : Answer Tables) × FormBy s A r
      yes_solid a e =
          let t = solid sound a e in
          let f = form (solid_lawful sound t.1) in
          (tree_answer s f.0, formed t.0 f.0 t.1 f.1)

  pub form_by_unique : (q r : Answer Tables) → FormBy s A q → FormBy s A r → q ≡ r
  form_by_unique q r (solid_refused d) (solid_refused e) = cc
  form_by_unique q r (solid_refused d) (formed a t e n) = differ (cc)
  form_by_unique q r (formed a t d n) (solid_refused e) = differ (cc)
  form_by_unique q r (formed a t d n) (formed b u e m) =
      let f : b ≡ a = solid_unique sound e d in
      ap (tree_answer s) (form_unique (solid_lawful sound d) n (subst (λ c. NormalForm c u) f m))

module _ (s : Rooms) (A : Lent) where
  pub form_some : (work : ℕ) → (r : Answer Tables) × FormAnswer work s A r
  form_some work = with_some work (form_by s (lent_sound A))

  pub form_answer_unique : {work : ℕ} {q r : Answer Tables} → FormAnswer work s A q → FormAnswer work s A r → q ≡ r
  form_answer_unique = with_unique (form_by_unique s (lent_sound A))

-- two solids that are the same space get the same answer, a refusal too
pub same_space_same_answer : (s : Rooms) (a b : Tree) {A B : Verdict} → Sound A → Sound B → A ≡ accepted (tables_of a) → B ≡ accepted (tables_of b)
    → ((X : Point) → Inside box X → Off (planes a) X → Off (planes b) X → answer a X ≡ answer b X) → (q r : Answer Tables) → FormBy s A q → FormBy s B r → q ≡ r
same_space_same_answer s a b u v d e f q r (solid_refused g) m = differ (cc)
same_space_same_answer s a b u v d e f q r (formed c t g n) (solid_refused h) = differ (cc)
same_space_same_answer s a b u v d e f q r (formed c t g n) (formed z w h m) =
    let i : c ≡ a = solid_unique u g d in
    let j : z ≡ b = solid_unique v h e in
    ap (tree_answer s) ((same_form_same_space (solid_lawful u d) (solid_lawful v e) (subst (λ y. NormalForm y t) i n) (subst (λ y. NormalForm y w) j m)).1 f)

-- ---- the merge of a text

module _ (t : List ℕ) where
  sounds : {o : ℕ} {a b : Tables} → judge_merge operand_rooms t ≡ order o a b → Sound (accepted a) × Sound (accepted b)
  sounds {o} {a} {b} e = let l = (merge_read operand_rooms t o a b e).lawful in (sound_tables l.lawful_a, sound_tables l.lawful_b)

  pub text_some : (out : List ℕ) × MergeText t out
  text_some = go (judge_merge operand_rooms t) refl
    where
      go : (i : MergeInput) → judge_merge operand_rooms t ≡ i → (out : List ℕ) × MergeText t out
      go (order o a b) e = let m = merge_by program_rooms o (sounds e).0 (sounds e).1 in (printed m.0, merged_text e m.1)
      go (order_refused n l) e = (_, unread e)

  pub text_unique : {q r : List ℕ} → MergeText t q → MergeText t r → q ≡ r
  text_unique (unread d) (unread e) = cc
  text_unique (unread d) (merged_text e m) = differ (cc)
  text_unique (merged_text d m) (unread e) = differ (cc)
  text_unique (merged_text {o = o} {a = a} {b = b} {r = q} d m) (merged_text {o = p} {a = c} {b = f} {r = r} e n) =
      let i : p ≡ o = cc in
      let j : c ≡ a = cc in
      let k : f ≡ b = cc in
      ap printed (merge_by_unique program_rooms o (sounds d).0 (sounds d).1 q r m
      (subst (λ z. MergeBy program_rooms z (accepted a) (accepted b) r) i (subst (λ z. MergeBy program_rooms p (accepted z) (accepted b) r) j (subst (λ z. MergeBy program_rooms p (accepted c) (accepted z) r) k n))))

-- ---- the normal form of a text

pub text_sound : (s : Rooms) (t : List ℕ) → Sound (judge s t)
text_sound s t = record { lawful = λ a e. (judge_read s t a e).lawful }

pub form_text_some : (t : List ℕ) → (out : List ℕ) × FormText t out
form_text_some t = let r = form_by program_rooms (text_sound operand_rooms t) in (printed r.0, formed_text r.1)

pub form_text_unique : {t q r : List ℕ} → FormText t q → FormText t r → q ≡ r
form_text_unique {t} (formed_text {r = x} m) (formed_text {r = y} n) = ap printed (form_by_unique program_rooms (text_sound operand_rooms t) x y m n)

pub same_space_same_text : (a b : Tree) {t u x y : List ℕ} → judge operand_rooms t ≡ accepted (tables_of a) → judge operand_rooms u ≡ accepted (tables_of b)
    → ((X : Point) → Inside box X → Off (planes a) X → Off (planes b) X → answer a X ≡ answer b X) → FormText t x → FormText u y → x ≡ y
same_space_same_text a b {t} {u} d e f (formed_text {r = q} m) (formed_text {r = r} n) = ap printed (same_space_same_answer program_rooms a b (text_sound operand_rooms t) (text_sound operand_rooms u) d e f q r m n)
