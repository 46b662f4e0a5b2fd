-- An unknown kind stands at the front where the code says so.
use Rattle.std.proofs.Common.{◌≡◌, ℕ, Bool, true, false, List, [], refl, ap, ◌∙◌}
use Rattle.std.specs.declared.option.Option.TheVariants.{Some}
use Rattle.std.specs.declared.result.Result.TheVariants.{Err}
use Rattle.ledger.specs.Book.{Book}
use Rattle.ledger.specs.Calls.{look_at, page_into, value_of, Call, post_of, turn_to, withdrawal, asks}
use Rattle.book.specs.declared.Book as code
use Rattle.book.specs.Views.{as_book}
use Rattle.journal.specs.declared.NoCall.{NoCall}
use Rattle.journal.specs.declared.NoCall.TheVariants.{CutShort, NotKnown}
use Rattle.journal.specs.Journal.{Front, whole, cut, unknown, desk_front}
use Rattle.journal.specs.Replies as replies
use Rattle.journal.specs.Replies.{posted, turned, withdrawn, looked, cut_short, not_known, reply_to}
use Rattle.journal.specs.Made.{as_no_call, MakesAtDesk}
use Rattle.desk_core.specs.Handed.{is_not_known}
use Rattle.desk_core.proofs.Fronts.{HasRecord, front_stands}

abbrev pub is_unknown : Front → Bool
is_unknown (whole c n) = false
is_unknown cut = false
is_unknown unknown = true

abbrev strange : replies.Reply → Bool
strange (posted o) = false
strange (turned o) = false
strange (withdrawn o) = false
strange (looked y o) = false
strange cut_short = false
strange not_known = true

strange_code : (why : NoCall) → is_not_known (Some why) ≡ strange (as_no_call why)
strange_code CutShort = refl
strange_code NotKnown = refl

strange_front : (b : Book) (x : Front) → ((c : Call) (n : ℕ) → x ≡ whole c n → HasRecord c) → strange (reply_to b x) ≡ is_unknown x
strange_front b (whole (post_of s) n) h = refl
strange_front b (whole (turn_to m) n) h = refl
strange_front b (whole withdrawal n) h = absurd (h withdrawal n refl)
strange_front b (whole (asks (look_at w v y)) n) h = refl
strange_front b (whole (asks (page_into w l)) n) h = absurd (h (asks (page_into w l)) n refl)
strange_front b (whole (asks (value_of fs)) n) h = absurd (h (asks (value_of fs)) n refl)
strange_front b cut h = refl
strange_front b unknown h = refl

pub unknown_by : {before after : code.Book} {s : List ℕ} {why : NoCall} → MakesAtDesk before after s (Err why) →
    is_not_known (Some why) ≡ is_unknown (desk_front s)
unknown_by {before} {after} {s} {why} h =
    strange_code why ∙ ap strange h.reply ∙ strange_front (as_book before) (desk_front s) (λ c n w. (front_stands s []).recorded w)
