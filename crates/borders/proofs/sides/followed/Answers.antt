-- `borders::sides::followed` meets its contract (proofs/Follows). Assumes nothing.
use Rattle.std.proofs.lemmas.Bool.Decides.{Decides-at}
use Rattle.borders.specs.Sides.{to_b, to_backs, at_end}
use Rattle.borders.proofs.Follows.{marks_differ}
use Rattle.borders.proofs.sides.followed.Goals as goal

pub returns-in_default : goal.returns-in_default
returns-in_default c = to_b c.in_default.is

pub returns-in-None : goal.returns-in-None
returns-in-None c = to_backs c.in-Some.is c.in-None.is c.mark-o.ensures

pub returns-in-Some-front : goal.returns-in-Some-front
returns-in-Some-front c = at_end c.in-Some.is c.in-Some-front.is (Decides-at _ _ c.ne.ensures (marks_differ c.in-Some-front.f c.mark-o.result c.mark-o.ensures))
