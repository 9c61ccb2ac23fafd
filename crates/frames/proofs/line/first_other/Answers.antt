-- `frames::line::first_other` meets its contract. Assumes nothing.
use Rattle.std.proofs.Common.{◌≡◌, ◌≢◌, rules, tests}
use Rattle.std.proofs.Math.Option.{none}
use Rattle.std.proofs.lemmas.Iterator.{IsFirst-from_position, YieldsList-from_slice}
use Rattle.scope.specs.Text.{digit}
use Rattle.frames.proofs.Digits.{other_true, other_false}
use Rattle.frames.proofs.line.first_other.Goals as goal

pub returns : goal.returns
returns c =
    let first = IsFirst-from_position _ _ _ (λ x. digit x ≡ none) (λ x. digit x ≢ none) c.position.ensures.ran (YieldsList-from_slice c.args.text.now cc) (λ x q k. search (rules, tests, other_true)) (λ x q k. search (rules, tests, other_false)) in
    search rules
