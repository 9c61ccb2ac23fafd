-- What each call promises, in document 01's words. With fs the frames of the text from the cursor on, a reading call gives the first of fs if it is of the
-- kind that is due, with the cursor after its line, and else refuses.
--     Refuses                        the refusal's number: 1 for a malformed line, 2 for missing text and for a frame that is not due
--     IsHead .. IsOperation          the frames that may be due
--     Reads                          a frame was read, and where its line ends
--     HeadTold, PlaneTold, NodeTold, EndTold, OperationTold, AfterTold   the answers, case by case
--     OtherTold                      where the digits end
--     LineTold, DueRead, DueTold     the same of a line, and of the frame that is due, before its numbers are looked at
--     Wrote                          a line was written, and where it ends
use Rattle.std.specs.Prelude.{◌≡◌, List, [], ◌∷◌, ◌≢◌, ℕ, ◌+◌, ◌-◌, ◌*◌, ◌≤◌, ◌<◌, ℤ, length, get_or, drop, Option, Some, None, Result, Ok, Err}
use Rattle.std.proofs.lemmas.List.Edits.{sets}
use Rattle.std.proofs.Math.Option.{none}
use Rattle.scope.specs.Planes.{Plane}
use Rattle.scope.specs.Solids.{Entry, entry}
use Rattle.scope.specs.Text.{digit, Frame, bad, operation, head, plane, node_row, end, frame, frames}
use Rattle.frames.specs.Bytes.{bytes_of, kind}
use Rattle.frames.specs.declared.Cursor.{Cursor}
use Rattle.frames.specs.declared.Head.{Head}

-- ---- refusals 1 and 2

pub data Refuses (wanted : Frame → Type 0) (fs : List Frame) : ℕ → Type 0 where
  missing : fs ≡ [] → Refuses wanted fs 2
  malformed : {gs : List Frame} → fs ≡ bad ∷ gs → Refuses wanted fs 1
  not_due : {f : Frame} {gs : List Frame} → fs ≡ f ∷ gs → f ≢ bad → ¬ wanted f → Refuses wanted fs 2

pub data IsHead : Frame → Type 0 where
  is_head : {n m r : ℕ} → IsHead (head n m r)

pub data IsPlane : Frame → Type 0 where
  is_plane : {p : Plane} → IsPlane (plane p)

pub data IsNode : Frame → Type 0 where
  is_node : {e : Entry} → IsNode (node_row e)

pub data IsEnd : Frame → Type 0 where
  is_end : IsEnd end

pub data IsOperation : Frame → Type 0 where
  is_operation : {o : ℕ} → IsOperation (operation o)

-- ---- a frame that was read

-- f is the first frame from `at` on; its line has `size` characters with its LF, and the other frames follow it
pub record Reads (t : List ℕ) (at : ℕ) (f : Frame) (size next : ℕ) : Type 0 where
  pub first : frames (drop at t) ≡ f ∷ frames (drop next t)
  pub place : next ≡ at + size
  pub inside : next ≤ length t

-- ---- answers, case by case

abbrev pub HeadTold : List ℕ → ℕ → Result (Head × Cursor) ℕ → Type 0
HeadTold t at (Ok (h, c)) = Reads t at (head h.planes h.nodes h.root) 13 c.at
HeadTold t at (Err k) = Refuses IsHead (frames (drop at t)) k

abbrev pub OperationTold : List ℕ → ℕ → Result (ℕ × Cursor) ℕ → Type 0
OperationTold t at (Ok (o, c)) = Reads t at (operation o) 5 c.at
OperationTold t at (Err k) = Refuses IsOperation (frames (drop at t)) k

abbrev pub EndTold : List ℕ → ℕ → Result Cursor ℕ → Type 0
EndTold t at (Ok c) = Reads t at end 3 c.at
EndTold t at (Err k) = Refuses IsEnd (frames (drop at t)) k

-- a plane was read, and its four numbers stand in row i of the table, which was ps
pub record PlaneRead (t : List ℕ) (at i : ℕ) (ps ps' : List ℤ) (next : ℕ) : Type 0 where
  pub is : Plane
  pub reads : Reads t at (plane is) 23 next
  pub table : ps' ≡ sets ps (4 * i) (is.x ∷ is.y ∷ is.z ∷ is.w ∷ [])

-- the table is as it was
pub record Kept {A : Type 0} (wanted : Frame → Type 0) (fs : List Frame) (k : ℕ) (ps ps' : List A) : Type 0 where
  pub refuses : Refuses wanted fs k
  pub table : ps' ≡ ps

abbrev pub PlaneTold : List ℕ → ℕ → ℕ → List ℤ → List ℤ → Result Cursor ℕ → Type 0
PlaneTold t at i ps ps' (Ok c) = PlaneRead t at i ps ps' c.at
PlaneTold t at i ps ps' (Err k) = Kept IsPlane (frames (drop at t)) k ps ps'

pub record NodeRead (t : List ℕ) (at i : ℕ) (ns ns' : List ℕ) (next : ℕ) : Type 0 where
  pub plane_number : ℕ
  pub front : ℕ
  pub back : ℕ
  pub reads : Reads t at (node_row (entry plane_number front back)) 13 next
  pub table : ns' ≡ sets ns (3 * i) (plane_number ∷ front ∷ back ∷ [])

abbrev pub NodeTold : List ℕ → ℕ → ℕ → List ℕ → List ℕ → Result Cursor ℕ → Type 0
NodeTold t at i ns ns' (Ok c) = NodeRead t at i ns ns' c.at
NodeTold t at i ns ns' (Err k) = Kept IsNode (frames (drop at t)) k ns ns'

-- nothing may follow the end: 1, else 2
pub data Follows (fs : List Frame) : ℕ → Type 0 where
  bad_follows : {gs : List Frame} → fs ≡ bad ∷ gs → Follows fs 1
  more_follows : {f : Frame} {gs : List Frame} → fs ≡ f ∷ gs → f ≢ bad → Follows fs 2

abbrev pub AfterTold : List ℕ → ℕ → Result (Unit {0}) ℕ → Type 0
AfterTold t at (Ok u) = frames (drop at t) ≡ []
AfterTold t at (Err k) = Follows (frames (drop at t)) k

-- ---- a line, and the frame that is due, before its numbers are looked at

-- the first character that is no digit
abbrev pub OtherTold : List ℕ → Option ℕ → Type 0
OtherTold t (Some n) = (n < length t) × (digit (get_or t n 0) ≡ none) × ((k : ℕ) → k < n → digit (get_or t k 0) ≢ none)
OtherTold t None = (k : ℕ) → k < length t → digit (get_or t k 0) ≢ none

pub record BadFirst (fs : List Frame) : Type 0 where
  pub rest : List Frame
  pub is : fs ≡ bad ∷ rest

-- n bytes, at least one
pub record WholeLine (t : List ℕ) (at n : ℕ) : Type 0 where
  pub reads : Reads t at (frame (bytes_of t at 0 n)) (2 * n + 1) (at + (2 * n + 1))
  pub some : 0 < n
  pub good : frame (bytes_of t at 0 n) ≢ bad

abbrev pub LineTold : List ℕ → ℕ → Result (Option ℕ) ℕ → Type 0
LineTold t at (Ok (Some n)) = WholeLine t at n
LineTold t at (Ok None) = frames (drop at t) ≡ []
LineTold t at (Err k) = BadFirst (frames (drop at t)) × (k ≡ 1)

abbrev pub OfKind : ℕ → Frame → Type 0
OfKind k f = kind f ≡ k

-- the n bytes of a frame of kind k were read
pub record DueRead (t : List ℕ) (at k n : ℕ) (bs : List ℕ) (next : ℕ) : Type 0 where
  pub bytes : bs ≡ bytes_of t at 0 n
  pub reads : Reads t at (frame (k ∷ bytes_of t at 1 (n - 1))) (2 * n + 1) next

abbrev pub DueTold : List ℕ → ℕ → ℕ → ℕ → Result (List ℕ × Cursor) ℕ → Type 0
DueTold t at k n (Ok (bs, c)) = DueRead t at k n bs c.at
DueTold t at k n (Err r) = Refuses (OfKind k) (frames (drop at t)) r

-- ---- writing

-- l was written at `at`; it has `size` characters, and next is the place after them
pub record Wrote (t t' : List ℕ) (at : ℕ) (l : List ℕ) (size next : ℕ) : Type 0 where
  pub text : t' ≡ sets t at l
  pub long : length l ≡ size
  pub place : next ≡ at + size
