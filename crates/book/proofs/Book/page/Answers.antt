-- The page of the curve that is open.
use Rattle.std.proofs.Common.{sym, rules}
use Rattle.book.proofs.Booking.{page_written}
use Rattle.book.proofs.Book.page.Goals as goal

pub returns : goal.returns
returns c =
    page_written _ _ _ _ _ _ _ (sym c.in_ok-curve.ensures.curve) c.if-out-lt-PAGE_LENGTH.false (search rules) c.age_of.ensures c.write_to.ensures
