-- One line of a solid's text, read and judged: it is taken, or refused because of what stands on it or because of the rows before it.
--     HeadLine                       a head, for which so many rows are lent
--     PlaneLine, NodeLine, EndLine   a plane for row i, a node for row i, the end
use Rattle.std.specs.Prelude.{◌≡◌, List, ℕ, leb, ℤ, drop, Result, Ok, Err}
use Rattle.scope.specs.Text.{frames, head, end}
use Rattle.scope.specs.Judging.{Rooms, judge_head}
use Rattle.frames.specs.declared.Cursor.{Cursor}
use Rattle.frames.specs.Promises.{Refuses, IsHead, IsPlane, IsNode, IsEnd, Reads, PlaneRead, NodeRead}
use Rattle.tables.specs.declared.Solid.{Solid}
use Rattle.tables.specs.Work.{all_marked}
use Rattle.tables.specs.Promises.{judged, plane_judged, end_judged, Stands, Falls}

pub data HeadLine (t : List ℕ) (at : ℕ) (a : Rooms) : Result (Solid × Cursor) ℕ → Type 0 where
  head_taken : {s : Solid} {c : Cursor} → Reads t at (head s.planes s.nodes s.root) 13 c.at → judged (judge_head a s.planes s.nodes s.root) ≡ Ok tt → HeadLine t at a (Ok (s, c))
  no_head : {k : ℕ} → Refuses IsHead (frames (drop at t)) k → HeadLine t at a (Err k)
  bad_head : {n m r k next : ℕ} → Reads t at (head n m r) 13 next → judged (judge_head a n m r) ≡ Err k → HeadLine t at a (Err k)

pub data PlaneLine (t : List ℕ) (at i : ℕ) (xs xs' : List ℤ) : Result Cursor ℕ → Type 0 where
  plane_taken : {c : Cursor} → PlaneRead t at i xs xs' c.at → plane_judged xs' i ≡ Ok tt → PlaneLine t at i xs xs' (Ok c)
  no_plane : {k : ℕ} → Refuses IsPlane (frames (drop at t)) k → PlaneLine t at i xs xs' (Err k)
  bad_plane : {k next : ℕ} → PlaneRead t at i xs xs' next → plane_judged xs' i ≡ Err k → PlaneLine t at i xs xs' (Err k)

pub data NodeLine (t : List ℕ) (at n i : ℕ) (ns ns' : List ℕ) (w w' : List ℤ) (depth : ℕ) : Result (Cursor × ℕ) ℕ → Type 0 where
  node_taken : {c : Cursor} {d : ℕ} → NodeRead t at i ns ns' c.at → Stands ns' n i w depth w' d → NodeLine t at n i ns ns' w w' depth (Ok (c, d))
  no_node : {k : ℕ} → Refuses IsNode (frames (drop at t)) k → NodeLine t at n i ns ns' w w' depth (Err k)
  bad_node : {k next : ℕ} → NodeRead t at i ns ns' next → Falls ns' n i w depth w' k → NodeLine t at n i ns ns' w w' depth (Err k)

pub data EndLine (t : List ℕ) (at n : ℕ) (w : List ℤ) (depth : ℕ) : Result Cursor ℕ → Type 0 where
  end_taken : {c : Cursor} → Reads t at end 3 c.at → end_judged (all_marked w n) (leb depth 1) ≡ Ok tt → EndLine t at n w depth (Ok c)
  no_end : {k : ℕ} → Refuses IsEnd (frames (drop at t)) k → EndLine t at n w depth (Err k)
  bad_end : {k next : ℕ} → Reads t at end 3 next → end_judged (all_marked w n) (leb depth 1) ≡ Err k → EndLine t at n w depth (Err k)
