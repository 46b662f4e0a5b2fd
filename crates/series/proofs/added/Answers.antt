-- The definition's test.
use mathlib.Core.Path.{sym}
use native.Mathlib.Omega.{arith}
use Rattle.method.proofs.Slack.{added_known, added_elsewhere}
use Rattle.series.proofs.added.Goals as goal

pub returns-then-x-known : goal.returns-then-x-known
returns-then-x-known c = (sym (added_known 0 _ _ c.if-x-known.true), omega arith)

pub returns-else-x-known : goal.returns-else-x-known
returns-else-x-known c = (sym (added_elsewhere 0 _ _ c.if-x-known.false), omega arith)
