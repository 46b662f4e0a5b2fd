use mathlib.Core.Path.{sym, subst}
use Rattle.ledger.specs.Book.{Book}
use Rattle.journal.proofs.Decoding.{Reached, begins, stops, falls, goes_on}
use Rattle.replay.proofs.replay.Goals as goal

pub loop-made-init : goal.loop-made-init
loop-made-init c = subst (λ (b : Book). Reached c.args.age_limit c.args.calls.now b c.args.calls.now) (sym c.fresh-book.ensures) (begins _ _)

pub loop-made-preserved : goal.loop-made-preserved
loop-made-preserved c = goes_on _ _ _ _ _ c.loop-made.invariant _ c.in-Ok.ensures

pub loop-made-smaller : goal.loop-made-smaller
loop-made-smaller c = falls _ _ _ _ _ c.loop-made.invariant _ c.in-Ok.ensures

pub returns : goal.returns
returns c = stops _ _ _ _ _ c.loop-made.invariant _ c.in_default.ensures
