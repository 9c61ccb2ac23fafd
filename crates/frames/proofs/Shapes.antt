-- The kind of a frame is its first byte, and tells how many bytes it has.
--     kind_shape     a frame of a kind has that kind's first byte and number of bytes
use mathlib.Core.Path.{◌≡◌, refl, sym, ap, ◌∙◌}
use mathlib.Core.Bool.{Bool, true, false, cond}
use mathlib.Core.List.{List, [], ◌∷◌}
use mathlib.Core.Logic.{◌≢◌}
use Prim.Native.Nat.{ℕ, suc, ◌+◌}
use native.Mathlib.Omega.{arith}
use lib.Dec.{T, eqb, eqb→eq}
use lib.ListN.{length, get_or}
use Rattle.scope.specs.Solids.{entry}
use Rattle.scope.specs.Text.{word, Frame, other, operation, head, plane, node_row, end, plane_of, frame}
use denote.Enum.Declared.{tag_of}
use Rattle.frames.specs.Bytes.{Shape, head_shape, plane_shape, node_shape, end_shape, operation_shape, kind, first_byte}
use Rattle.frames.specs.declared.Kind.{Kind}
use Rattle.frames.specs.declared.Kind.TheVariants.{Head, Plane, Node, End, Operation}
use Rattle.frames.specs.contracts.Kind as Kinds

data Kinded : List ℕ → ℕ → Type 0 where
  no_frame : {bs : List ℕ} → Kinded bs 0
  framed : {k n : ℕ} {bs : List ℕ} → Shape k n → suc (length bs) ≡ n → Kinded (k ∷ bs) k

module _ (k q n : ℕ) (bs : List ℕ) (s : Shape q n) (e : suc (length bs) ≡ n) where
  is_kind : T (eqb k q) → Kinded (k ∷ bs) q
  is_kind t = rw (eqb→eq k q t) (framed s e)

  by_kind : (f : Frame) → kind f ≡ q → Kinded (k ∷ bs) (kind (cond (eqb k q) f other))
  by_kind f h = go (eqb k q) is_kind
    where
      go : (b : Bool) → (T b → Kinded (k ∷ bs) q) → Kinded (k ∷ bs) (kind (cond b f other))
      go true g = rw h (g tt)
      go false g = no_frame

kinded : (bs : List ℕ) → Kinded bs (kind (frame bs))
unfolding frame
kinded [] = no_frame
kinded (k ∷ []) = by_kind k 4 1 [] end_shape refl end refl
kinded (k ∷ o ∷ []) = by_kind k 5 2 (o ∷ []) operation_shape refl (operation o) refl
kinded (k ∷ a ∷ b ∷ []) = no_frame
kinded (k ∷ a ∷ b ∷ c ∷ []) = no_frame
kinded (k ∷ a ∷ b ∷ c ∷ d ∷ []) = no_frame
kinded (k ∷ n ∷ a₁ ∷ a₀ ∷ b₁ ∷ b₀ ∷ []) = go (eqb k 1) (is_kind k 1 6 (n ∷ a₁ ∷ a₀ ∷ b₁ ∷ b₀ ∷ []) head_shape refl)
  where
    go : (b : Bool) → (T b → Kinded (k ∷ n ∷ a₁ ∷ a₀ ∷ b₁ ∷ b₀ ∷ []) 1) → Kinded (k ∷ n ∷ a₁ ∷ a₀ ∷ b₁ ∷ b₀ ∷ []) (kind (cond b (head n (word a₁ a₀) (word b₁ b₀)) (cond (eqb k 3) (node_row (entry n (word a₁ a₀) (word b₁ b₀))) other)))
    go true f = f tt
    go false f = by_kind k 3 6 (n ∷ a₁ ∷ a₀ ∷ b₁ ∷ b₀ ∷ []) node_shape refl (node_row (entry n (word a₁ a₀) (word b₁ b₀))) refl
kinded (k ∷ a ∷ b ∷ c ∷ d ∷ e ∷ f ∷ []) = no_frame
kinded (k ∷ a ∷ b ∷ c ∷ d ∷ e ∷ f ∷ g ∷ []) = no_frame
kinded (k ∷ a ∷ b ∷ c ∷ d ∷ e ∷ f ∷ g ∷ h ∷ []) = no_frame
kinded (k ∷ a ∷ b ∷ c ∷ d ∷ e ∷ f ∷ g ∷ h ∷ i ∷ []) = no_frame
kinded (k ∷ a₁ ∷ a₀ ∷ b₁ ∷ b₀ ∷ c₁ ∷ c₀ ∷ d₃ ∷ d₂ ∷ d₁ ∷ d₀ ∷ []) =
    by_kind k 2 11 (a₁ ∷ a₀ ∷ b₁ ∷ b₀ ∷ c₁ ∷ c₀ ∷ d₃ ∷ d₂ ∷ d₁ ∷ d₀ ∷ []) plane_shape refl (plane (plane_of a₁ a₀ b₁ b₀ c₁ c₀ d₃ d₂ d₁ d₀)) refl
kinded (k ∷ a ∷ b ∷ c ∷ d ∷ e ∷ f ∷ g ∷ h ∷ i ∷ j ∷ l ∷ m) = no_frame

-- how many bytes
size : ℕ → ℕ
size k = cond (eqb k 2) 11 (cond (eqb k 4) 1 (cond (eqb k 5) 2 6))

shape_size : {k n : ℕ} → Shape k n → n ≡ size k
unfolding size
shape_size head_shape = refl
shape_size plane_shape = refl
shape_size node_shape = refl
shape_size end_shape = refl
shape_size operation_shape = refl

shape_some : {k n : ℕ} → Shape k n → k ≢ 0
shape_some head_shape e = omega arith
shape_some plane_shape e = omega arith
shape_some node_shape e = omega arith
shape_some end_shape e = omega arith
shape_some operation_shape e = omega arith

-- a frame of a kind has that kind's first byte and number of bytes
kinded_shape : {bs : List ℕ} {q k n : ℕ} → Kinded bs q → q ≡ k → Shape k n → (length bs ≡ n) × (get_or bs 0 0 ≡ k)
kinded_shape no_frame e s = absurd (shape_some s (sym e))
kinded_shape (framed r f) e s = (f ∙ shape_size r ∙ ap size e ∙ sym (shape_size s), e)

pub kind_shape : (bs : List ℕ) {k n : ℕ} → Shape k n → kind (frame bs) ≡ k → (length bs ≡ n) × (get_or bs 0 0 ≡ k)
kind_shape bs s e = kinded_shape (kinded bs) e s

-- the first byte, as the code counts its kinds
pub byte_is : (k : Kind) → tag_of Kinds.the_type k + 1 ≡ first_byte k
byte_is Head = refl
byte_is Plane = refl
byte_is Node = refl
byte_is End = refl
byte_is Operation = refl
