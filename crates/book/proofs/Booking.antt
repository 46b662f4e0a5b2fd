-- A sheet that is accepted can be kept; a page that was written is that of an open curve; and a list that is refused has no value.
use Rattle.std.proofs.Common.{◌≡◌, ℕ, ◌-◌, ◌≤◌, List, length, sym, ap, ◌∙◌, arith}
use Rattle.method.specs.Grounds.{Ground, refused, done, Outcome, ◌>>=◌}
use Rattle.method.specs.Sheet.{Numbers, read_sheet, layout_of}
use Rattle.method.specs.Curve.{Curve, Held}
use Rattle.method.proofs.Reading.{read_passes}
use Rattle.method.proofs.Slots.{size_most}
use Rattle.valuation.specs.Block.{Flow, block_checked, value_by}
use Rattle.ledger.specs.Page.{page_bytes, page_length}
use Rattle.ledger.specs.Book.{Paged, open_curve, page_in}
use Rattle.ledger.proofs.Asked.{page_open}
use Rattle.history.specs.Views.{longest}
use Rattle.page_writer.specs.Written.{written_to, Bands}
use Rattle.page_writer.proofs.Writing.{all_years}
use Rattle.block.specs.Views.{block_of}

pub read_fits : (s : List ℕ) (n : Numbers) → read_sheet s ≡ done n → length s ≤ longest
read_fits s n e = omega (arith, (read_passes s n e).long, size_most (layout_of s))

abbrev paged : List ℕ → Paged
paged out = record { buffer = out; answer = done tt }

pub page_written :
    (k : Held Curve) (told limit : ℕ) (c : Curve) (lent out : List ℕ) (age : ℕ) → open_curve k told limit ≡ done c →
    page_length ≤ length lent → Bands c.lows c.highs → age ≡ told - c.month → out ≡ written_to 150 (page_bytes c.month age c.lows c.highs) lent →
    paged out ≡ page_in k told limit lent
page_written k told limit c lent out age opened room bands e written =
    let whole = written ∙ all_years c.month age c.lows c.highs bands lent in
    ap paged (rw e at whole) ∙ sym (page_open k told limit lent c opened room)

handed_on :
    {A B C : Type 0} (o : Outcome A) (f : A → B) (k : A → C) {g : Ground} → (o >>= λ a. done (f a)) ≡ refused g → (o >>= λ a. done (k a)) ≡ refused g
handed_on (refused g) f k e = cc
handed_on (done a) f k e = cc

pub list_refused : (low high : ℕ → ℕ) (fs : List Flow) (g : Ground) → block_of fs ≡ refused g → value_by low high fs ≡ refused g
unfolding block_of value_by
list_refused low high fs g e = handed_on (block_checked fs) _ _ e
