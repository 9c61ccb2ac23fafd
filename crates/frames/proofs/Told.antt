-- What each call tells, from the line that it read.
--     due_yes, due_other_size, due_other_kind    the frame that is due, or another
--     head_told, operation_told, end_told, plane_told, node_told    its numbers, read from its bytes
--     head_refused .. operation_refused          a refusal, by kind
--     plane_kept, node_kept                      a refusal leaves the table as it was
use mathlib.Core.Path.{◌≡◌, refl, sym, ap, ◌∙◌}
use mathlib.Core.List.{List, [], ◌∷◌}
use mathlib.Core.Logic.{◌≢◌}
use Prim.Native.Nat.{ℕ, zero, suc, ◌+◌, ◌-◌, ◌*◌, ◌<◌}
use native.Mathlib.Omega.{arith}
use lib.IntN.{ℤ}
use lib.ListN.{length, get_or, drop}
use lib.Seq.{sets}
use Rattle.scope.specs.Text.{word, long, signed, Frame, operation, head, end, plane_of, frame, frames}
use Rattle.frames.specs.Bytes.{byte_of, bytes_of, Shape, head_shape, plane_shape, node_shape, end_shape, operation_shape}
use Rattle.frames.specs.Promises.{Refuses, malformed, not_due, Follows, bad_follows, more_follows, IsHead, is_head, IsPlane, is_plane, IsNode, is_node, IsEnd, is_end, IsOperation, is_operation, Reads, PlaneRead, NodeRead, BadFirst, WholeLine, OfKind, DueRead}
use Rattle.frames.specs.Follows.{refuses_of}
use Rattle.frames.proofs.Shapes.{kind_shape}

-- ---- the frame that is due

bytes_length : (t : List ℕ) (at k n : ℕ) → length (bytes_of t at k n) ≡ n
bytes_length t at k zero = refl
bytes_length t at k (suc n) = ap suc (bytes_length t at (suc k) n)

bytes_first : (t : List ℕ) (at n : ℕ) → 0 < n → bytes_of t at 0 n ≡ byte_of t at 0 ∷ bytes_of t at 1 (n - 1)
bytes_first t at zero h = absurd (omega arith)
bytes_first t at (suc n) h = let e : n ≡ suc n - 1 = omega arith in ap (λ m. byte_of t at 0 ∷ bytes_of t at 1 m) e

pub due_bad : {wanted : Frame → Type 0} {fs : List Frame} {k : ℕ} → BadFirst fs × (k ≡ 1) → Refuses wanted fs k
due_bad (h, e) = rw e (malformed h.is)

module _ (t : List ℕ) (at k size n : ℕ) (w : WholeLine t at n) where
  module _ {bs : List ℕ} (b : bs ≡ bytes_of t at 0 size) where
    pub due_yes : n ≡ size → get_or bs 0 0 ≡ k → DueRead t at k size bs (at + (2 * size + 1))
    due_yes e f =
        let s : bs ≡ byte_of t at 0 ∷ bytes_of t at 1 (size - 1) = b ∙ bytes_first t at size (omega (arith, w.some)) in
        let g : k ≡ byte_of t at 0 = sym f ∙ ap (λ l. get_or l 0 0) s in
        record { bytes = b; reads = rw (← e, g, ← bytes_first t at n w.some) w.reads }

    module _ (s : Shape k size) where
      pub due_other_kind : n ≡ size → get_or bs 0 0 ≢ k → Refuses (OfKind k) (frames (drop at t)) 2
      due_other_kind m h = not_due w.reads.first w.good (λ e. h (ap (λ l. get_or l 0 0) (b ∙ ap (bytes_of t at 0) (sym m)) ∙ (kind_shape (bytes_of t at 0 n) s e).1))

  pub due_other_size : Shape k size → n ≢ size → Refuses (OfKind k) (frames (drop at t)) 2
  due_other_size s h = not_due w.reads.first w.good (λ e. h (rw bytes_length at (kind_shape (bytes_of t at 0 n) s e).0))

-- ---- its numbers

module _ (t : List ℕ) (at : ℕ) {bs : List ℕ} {next : ℕ} where
  pub head_told : {m r : ℕ} → DueRead t at 1 6 bs next → m ≡ word (get_or bs 2 0) (get_or bs 3 0) → r ≡ word (get_or bs 4 0) (get_or bs 5 0) → Reads t at (head (get_or bs 1 0) m r) 13 next
  unfolding frame
  head_told d e f = rw (e, f, d.bytes) d.reads

  pub operation_told : DueRead t at 5 2 bs next → Reads t at (operation (get_or bs 1 0)) 5 next
  unfolding frame
  operation_told d = rw d.bytes d.reads

  pub end_told : DueRead t at 4 1 bs next → Reads t at end 3 next
  unfolding frame
  end_told d = d.reads

  pub node_told : (i : ℕ) {ns ns' : List ℕ} {f b : ℕ} → DueRead t at 3 6 bs next → f ≡ word (get_or bs 2 0) (get_or bs 3 0) → b ≡ word (get_or bs 4 0) (get_or bs 5 0)
      → ns' ≡ sets ns (3 * i) (get_or bs 1 0 ∷ f ∷ b ∷ []) → NodeRead t at i ns ns' next
  unfolding frame
  node_told i {f = f} {b = b} d e g s = record { plane_number = get_or bs 1 0; front = f; back = b; reads = rw (e, g, d.bytes) d.reads; table = s }

  pub plane_told : (i : ℕ) {ps ps' : List ℤ} {a b c d : ℤ} → DueRead t at 2 11 bs next
      → a ≡ signed 32768 (word (get_or bs 1 0) (get_or bs 2 0)) → b ≡ signed 32768 (word (get_or bs 3 0) (get_or bs 4 0)) → c ≡ signed 32768 (word (get_or bs 5 0) (get_or bs 6 0))
      → d ≡ signed 2147483648 (long (word (get_or bs 7 0) (get_or bs 8 0)) (word (get_or bs 9 0) (get_or bs 10 0)))
      → ps' ≡ sets ps (4 * i) (a ∷ b ∷ c ∷ d ∷ []) → PlaneRead t at i ps ps' next
  unfolding frame plane_of
  plane_told i {a = a} {b = b} {c = c} {d = d} r e f g h s = record { is = record { x = a; y = b; z = c; w = d }; reads = rw (e, f, g, h, r.bytes) r.reads; table = s }

-- ---- refusals

head_kind : (f : Frame) → IsHead f → OfKind 1 f
head_kind f is_head = refl

plane_kind : (f : Frame) → IsPlane f → OfKind 2 f
plane_kind f is_plane = refl

node_kind : (f : Frame) → IsNode f → OfKind 3 f
node_kind f is_node = refl

end_kind : (f : Frame) → IsEnd f → OfKind 4 f
end_kind f is_end = refl

operation_kind : (f : Frame) → IsOperation f → OfKind 5 f
operation_kind f is_operation = refl

module _ {fs : List Frame} {n : ℕ} where
  pub head_refused : Refuses (OfKind 1) fs n → Refuses IsHead fs n
  head_refused = refuses_of head_kind

  pub plane_refused : Refuses (OfKind 2) fs n → Refuses IsPlane fs n
  plane_refused = refuses_of plane_kind

  pub node_refused : Refuses (OfKind 3) fs n → Refuses IsNode fs n
  node_refused = refuses_of node_kind

  pub end_refused : Refuses (OfKind 4) fs n → Refuses IsEnd fs n
  end_refused = refuses_of end_kind

  pub operation_refused : Refuses (OfKind 5) fs n → Refuses IsOperation fs n
  operation_refused = refuses_of operation_kind

-- ---- after the end

pub follows_bad : {fs : List Frame} {k : ℕ} → BadFirst fs × (k ≡ 1) → Follows fs k
follows_bad (h, e) = rw e (bad_follows h.is)

pub follows_more : {t : List ℕ} {at n : ℕ} → WholeLine t at n → Follows (frames (drop at t)) 2
follows_more w = more_follows w.reads.first w.good

-- ---- what each call of `read.rt` needs

pub ruleset told = (head_shape, operation_shape, end_shape, plane_shape, node_shape, head_told, operation_told, end_told, plane_told, node_told, head_refused, operation_refused, end_refused, plane_refused, node_refused, follows_bad, follows_more)
