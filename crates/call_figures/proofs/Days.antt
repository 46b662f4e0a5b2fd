-- A day of calls by computation: a wrong definition, or a wrong count, shows here in numbers. And the old box's answer of that day,
-- February's curve under a March heading, is refused by demand 3 itself. What is seen of one book stands in one list, so that the
-- book's curve is worked once.
use mathlib.Core.Path.{◌≡◌, refl, ap, sym, ◌∙◌}
use mathlib.Core.Bool.{true, false, false≢true}
use mathlib.Core.List.{List, [], ◌∷◌, ◌++◌, map}
use Prim.Native.Nat.{ℕ, ◌-◌, ◌≤◌}
use native.Mathlib.Omega.{arith}
use lib.IntN.{ℤ, pos}
use lib.ListN.{replicate, take, drop}
use lib.Signed.{le_z_yes}
use Rattle.method.specs.Units.{plain, adjusted, pair, SignedPair, signed_pair}
use Rattle.method.specs.Grounds.{number_of, no_curve, age_above_limit, Outcome, refused, done}
use Rattle.method.specs.Curve.{some}
use Rattle.figures.specs.Figures.{sheet_of, rate_records, volume_records}
use Rattle.method.proofs.Computes.{computes}
use Rattle.zero_rates.specs.Meaning.{grown, AtMost, HighRateExists}
use Rattle.zero_rates.proofs.Computes.{rates_compute}
use Rattle.zero_rates.proofs.Theorem.{exists_by, greatest_reaches}
use Rattle.ledger.specs.Answers.{factor, Finding, finding, answer_number}
use Rattle.ledger.specs.Sums.{running_from}
use Rattle.ledger.specs.Page.{year_records, page_bytes}
use Rattle.ledger.specs.Book.{Book, fresh, post, post_outcome, turn, turn_outcome, withdraw, look_in, look_up, page, page_outcome}
use Rattle.ledger.specs.Calls.{Call, post_of, turn_to, look_at, page_into, asks, run_from, run}
use Rattle.ledger.specs.Count.{Count, last_sheet, month_of, carries, count, accepts_sheet, accepts_month, accepts_withdrawal}
use Rattle.ledger.specs.Tells.{missing, band_of, LookTells, PageTells}
use Rattle.ledger.proofs.Asked.{refusal_kept, other_ground}

-- a sheet with all rates alike, volumes 1 and ultimate rate 0
unfoldable pub flat : ℕ → ℕ → List ℕ
flat month rate = sheet_of month (replicate 17 rate) (replicate 5 1) 0 100_000

february : List ℕ
february = flat 1 0

march : List ℕ
march = flat 2 3_000

-- month 2 is told; February's sheet, then March's, then February's again; a turn back; month 3 is told
morning : List Call
morning = turn_to 2 ∷ post_of february ∷ []

day : List Call
day =
    asks (look_at plain factor 1) ∷ post_of february ∷ turn_to 2 ∷ post_of february ∷ asks (look_at plain factor 20) ∷ post_of march ∷ post_of february ∷ turn_to 1
    ∷ turn_to 2_400 ∷ post_of [] ∷ turn_to 3 ∷ asks (page_into plain []) ∷ []

-- opens what the examples compute with
calls_open : ℕ
unfolding rates_compute post post_outcome turn turn_outcome withdraw running_from look_in page_outcome page_bytes year_records
    accepts_sheet accepts_month accepts_withdrawal
calls_open = 0

-- a look-up: the ground's number, or 0, low, high, month and age
unfoldable pub found : Outcome Finding → List ℕ
found (refused g) = number_of g ∷ []
found (done f) = 0 ∷ f.low ∷ f.high ∷ f.month ∷ f.age ∷ []

unfoldable pub look : Book → ℕ → List ℕ
look b y = found (look_up b plain factor y)

-- a post, a turn and a page: the ground's number, or 0
unfoldable pub answers : {A : Type 0} → Outcome A → List ℕ
answers o = answer_number o ∷ []

-- ---- the day

-- no curve yet; and nothing is told yet: 5
early : List (List ℕ)
early = look (fresh 2_399) 20 ∷ answers (post (fresh 2_399) february).answer ∷ []

-- March's curve with March's month, one month old; February's sheet is before it: 6; a turn back: 12; of a page hex 48, month 2 and age 1,
-- the record of year 20, and the byte past it; 15
evening : Book → List (List ℕ)
evening b =
    let out = (page b plain (replicate 1_506 7)).buffer in
    look b 20
    ∷ answers (post b february).answer
    ∷ answers (turn b 2).answer
    ∷ take 5 out
    ∷ take 10 (drop 195 out)
    ∷ drop 1_505 out
    ∷ answers (page b plain []).answer
    ∷ []

unfoldable pub opens : ℕ
unfolding computes calls_open february march morning day flat rate_records volume_records found look answers early evening
opens = 0

early_seen : early ≡ (14 ∷ []) ∷ (5 ∷ []) ∷ []
unfolding opens
early_seen = refl

morning_seen : look (run 2_399 morning) 20 ≡ 0 ∷ 1_000_000_000 ∷ 1_000_000_000 ∷ 1 ∷ 1 ∷ []
unfolding opens
morning_seen = refl

evening_seen :
    evening (run 2_399 day)
    ≡ (0 ∷ 553_675_753 ∷ 553_675_756 ∷ 2 ∷ 1 ∷ [])
    ∷ (6 ∷ [])
    ∷ (12 ∷ [])
    ∷ (0x48 ∷ 0 ∷ 2 ∷ 0 ∷ 1 ∷ [])
    ∷ (0x59 ∷ 20 ∷ 33 ∷ 0 ∷ 107 ∷ 233 ∷ 33 ∷ 0 ∷ 107 ∷ 236 ∷ [])
    ∷ (7 ∷ [])
    ∷ (15 ∷ [])
    ∷ []
unfolding opens
evening_seen = refl

-- the count of the same day
day_counted : count day ≡ record { told = 3; posts = march ∷ february ∷ []; depth = 2 }
unfolding opens
day_counted = refl

-- ---- a book with an age limit of 3 months, month 10 told and a sheet of month 7; then month 11, and a sheet of month 8

old : List ℕ
old = flat 7 0

at_limit : List Call
at_limit = turn_to 10 ∷ post_of old ∷ []

-- as old as the limit is still shown. The turn closes what the look-up showed: 16, after 13 and before 15. The book still holds it: a sheet
-- of month 6 is before it, and one of month 8 opens the book again
aging : Book → List (List ℕ)
aging b =
    let older = run_from b (asks (look_at plain factor 20) ∷ turn_to 11 ∷ []) in
    look b 20
    ∷ look older 20
    ∷ look older 0
    ∷ answers (page older plain []).answer
    ∷ answers (post older (flat 6 0)).answer
    ∷ look (run_from older (post_of (flat 8 0) ∷ [])) 20
    ∷ []

-- without a curve 14, whatever the limit; with a limit of 0 a curve is shown in its own month alone
own_month : Book → List (List ℕ)
own_month b =
    let posted-in-7 = run_from b (turn_to 7 ∷ post_of old ∷ []) in
    look b 20 ∷ look posted-in-7 20 ∷ look (run_from posted-in-7 (turn_to 8 ∷ [])) 20 ∷ []

ages_open : ℕ
unfolding opens old at_limit aging own_month
ages_open = 0

aging_seen :
    aging (run 3 at_limit)
    ≡ (0 ∷ 1_000_000_000 ∷ 1_000_000_000 ∷ 7 ∷ 3 ∷ [])
    ∷ (16 ∷ [])
    ∷ (13 ∷ [])
    ∷ (16 ∷ [])
    ∷ (6 ∷ [])
    ∷ (0 ∷ 1_000_000_000 ∷ 1_000_000_000 ∷ 8 ∷ 3 ∷ [])
    ∷ []
unfolding ages_open
aging_seen = refl

own_month_seen : own_month (fresh 0) ≡ (14 ∷ []) ∷ (0 ∷ 1_000_000_000 ∷ 1_000_000_000 ∷ 7 ∷ 0 ∷ []) ∷ (16 ∷ []) ∷ []
unfolding ages_open
own_month_seen = refl

-- a larger number makes a book with 2,399
limits : (((fresh 0).age_limit ≡ 0) × ((fresh 2_399).age_limit ≡ 2_399)) × (((fresh 2_400).age_limit ≡ 2_399) × ((fresh 5_000).age_limit ≡ 2_399))
limits = ((refl, refl), (refl, refl))

-- ---- a sheet so steep that some years have no high rate up to 100,000

unfoldable pub steep : List ℕ
steep = sheet_of 0 (replicate 9 0 ++ replicate 8 11_111) (replicate 5 1) 10_000 100_000

-- a look-up's rates, or the ground's number
rates : Book → ℕ → List ℤ
rates b y = numbers (look_up b plain factor y)
  where
    numbers : Outcome Finding → List ℤ
    numbers (refused g) = pos (number_of g) ∷ []
    numbers (done f) = f.low_rate ∷ f.high_rate ∷ []

steep_opens : ℕ
unfolding opens steep rates
steep_opens = 0

-- year 9 lies before the leap, years 10 to 17 answer 17, year 150 is 0 to 10: 17
steep_rates : map (rates (run 2_399 (post_of steep ∷ []))) (9 ∷ 10 ∷ 17 ∷ 18 ∷ 20 ∷ 150 ∷ [])
    ≡ (pos 0 ∷ pos 0 ∷ [])
    ∷ (pos 17 ∷ [])
    ∷ (pos 17 ∷ [])
    ∷ (pos 99_811 ∷ pos 99_841 ∷ [])
    ∷ (pos 88_428 ∷ pos 88_447 ∷ [])
    ∷ (pos 17 ∷ [])
    ∷ []
unfolding steep_opens
steep_rates = refl

-- and its page has the pairs of these years all the same
steep_paged : take 10 (drop 1_495 (page (run 2_399 (post_of steep ∷ [])) plain (replicate 1_505 7)).buffer) ≡ 0x59 ∷ 150 ∷ 0 ∷ 0 ∷ 0 ∷ 0 ∷ 0 ∷ 0 ∷ 0 ∷ 10 ∷ []
unfolding steep_opens
steep_paged = refl

-- ---- demand 3 refuses a wrong answer: February's factors with March's month and age

march_band : (band_of plain march 20).low ≡ 553_675_753
unfolding opens
march_band = refl

march_sheet : last_sheet (count day) ≡ some march
march_sheet = ap last_sheet day_counted

young : (count day).told - month_of march ≤ 2_399
young = omega (arith, ap (λ (c : Count). c.told) day_counted)

abbrev pub low_of : Outcome Finding → ℕ
low_of (refused g) = 0
low_of (done f) = f.low

march_rated : HighRateExists 20 (band_of plain march 20).low
unfolding opens
march_rated = exists_by 20 553_675_753 refl

february_under_march : (r : SignedPair) → LookTells 2_399 (count day) plain factor 20 (done (finding (pair 1_000_000_000 1_000_000_000) r 2 1)) → ⊥
february_under_march r tells =
    let found = (tells.finds march (march_sheet, refl) young (omega arith) (omega arith) march_rated).found in
    let low : ◌≡◌ {A = ℕ} 1_000_000_000 (band_of plain march 20).low = ap low_of found in
    omega (arith, low, march_band)

-- a page that says written and leaves the buffer as lent
blank_page : PageTells 2_399 (count day) plain (replicate 1_505 7) (record { buffer = replicate 1_505 7; answer = done tt }) → ⊥
blank_page tells =
    let mark : ◌≡◌ {A = ℕ} 7 0x48 = (tells.writes march (march_sheet, refl) young (omega arith)).read.mark in
    omega (arith, mark)

-- ---- and with an age limit of 3: a curve of month 7 shown in month 11, or 14 for it; 16 in month 10

abbrev in_month : ℕ → Count
in_month m = record { told = m; posts = old ∷ []; depth = 1 }

past_counted : count (turn_to 10 ∷ post_of old ∷ asks (look_at plain factor 20) ∷ turn_to 11 ∷ []) ≡ in_month 11
unfolding ages_open
past_counted = refl

month_7 : month_of old ≡ 7
unfolding ages_open
month_7 = refl

old_rated : HighRateExists 20 (band_of plain old 20).low
unfolding ages_open
old_rated = exists_by 20 1_000_000_000 refl

old_curve_shown : (f : Finding) → LookTells 3 (in_month 11) plain factor 20 (done f) → ⊥
old_curve_shown f tells = refusal_kept refl (tells.too_old old (refl, refl) (omega (arith, month_7)) (omega arith) (omega arith))

old_curve_missing : LookTells 3 (in_month 11) plain factor 20 (refused no_curve) → ⊥
old_curve_missing tells = other_ground refl (tells.too_old old (refl, refl) (omega (arith, month_7)) (omega arith) (omega arith)) (λ n. omega (arith, n))

closed_at_limit : LookTells 3 (in_month 10) plain factor 20 (refused age_above_limit) → ⊥
closed_at_limit tells = refusal_kept (tells.finds old (refl, refl) (omega (arith, month_7)) (omega arith) (omega arith) old_rated).found refl

-- ---- and of the rates: a low rate that is not the largest; a year without a high rate shown all the same

unfoldable pub low_rate_of : Outcome Finding → ℤ
low_rate_of (refused g) = pos 0
low_rate_of (done f) = f.low_rate

-- March's year 20 has 2.999% to 3.001%
march_passes : AtMost 20 (band_of plain march 20).high (pos 2_999)
unfolding opens grown
march_passes = le_z_yes tt

low_rate_too_low : LookTells 2_399 (count day) plain factor 20 (done (finding (pair 553_675_753 553_675_756) (signed_pair (pos 2_998) (pos 3_001)) 2 1)) → ⊥
unfolding low_rate_of
low_rate_too_low tells =
    let finds = tells.finds march (march_sheet, refl) young (omega arith) (omega arith) march_rated in
    let shown : pos 2_998 ≡ finds.rates.low = ap low_rate_of finds.found in
    let largest = finds.band_rates.low_rate.none_above (pos 2_999) (record { from = le_z_yes tt; to = le_z_yes tt }) march_passes in
    (rw (← shown) at largest).le

steep_unrated : HighRateExists 150 (band_of plain steep 150).low → ⊥
unfolding steep_opens
steep_unrated exists = let z : ◌≡◌ {A = ℕ} 0 1 = cc (greatest_reaches 150 0 exists) in omega arith

unrated_shown : (f : Finding) → LookTells 2_399 (record { told = 0; posts = steep ∷ []; depth = 1 }) plain factor 150 (done f) → ⊥
unrated_shown f tells = refusal_kept refl (tells.no_high_rate steep (refl, refl) (omega arith) (omega arith) (omega arith) steep_unrated)

-- ---- the adjusted curve: March's sheet with an adjustment of 0.1%, and without

adjusted_march : List ℕ
adjusted_march = march ++ 0x07 ∷ 0 ∷ 100 ∷ []

-- a look-up of the adjusted curve
other : Book → ℕ → List ℕ
other b y = found (look_up b adjusted factor y)

-- both curves of one sheet, with its month; year 151: 13; of its page hex 48 and the record of year 20. Then a sheet without an adjustment
-- is posted: 14, for the page too; and a plain look-up finds it
two_curves : Book → List (List ℕ)
two_curves b =
    let out = (page b adjusted (replicate 1_505 7)).buffer in
    let later = run_from b (post_of march ∷ []) in
    look b 20
    ∷ other b 20
    ∷ other b 151
    ∷ take 1 out
    ∷ take 10 (drop 195 out)
    ∷ other later 20
    ∷ answers (page later adjusted []).answer
    ∷ look later 20
    ∷ []

adjusted_opens : ℕ
unfolding opens adjusted_march other two_curves
adjusted_opens = 0

two_curves_seen :
    two_curves (run 2_399 (turn_to 3 ∷ post_of adjusted_march ∷ []))
    ≡ (0 ∷ 553_675_753 ∷ 553_675_756 ∷ 2 ∷ 1 ∷ [])
    ∷ (0 ∷ 542_712_164 ∷ 542_712_255 ∷ 2 ∷ 1 ∷ [])
    ∷ (13 ∷ [])
    ∷ (0x48 ∷ [])
    ∷ (0x59 ∷ 20 ∷ 32 ∷ 89 ∷ 33 ∷ 100 ∷ 32 ∷ 89 ∷ 33 ∷ 191 ∷ [])
    ∷ (14 ∷ [])
    ∷ (14 ∷ [])
    ∷ (0 ∷ 553_675_753 ∷ 553_675_756 ∷ 2 ∷ 1 ∷ [])
    ∷ []
unfolding adjusted_opens
two_curves_seen = refl

-- none stands in a fresh book
fresh_other : other (fresh 2_399) 20 ≡ 14 ∷ []
unfolding adjusted_opens
fresh_other = refl

-- the count holds the sheet, which carries both
abbrev with_sheet : List ℕ → Count
with_sheet s = record { told = 3; posts = s ∷ []; depth = 1 }

carried : carries adjusted adjusted_march ≡ true
unfolding adjusted_opens
carried = refl

adjusted_band : (band_of adjusted adjusted_march 20).low ≡ 542_712_164
unfolding adjusted_opens
adjusted_band = refl

month_2 : month_of adjusted_march ≡ 2
unfolding adjusted_opens
month_2 = refl

adjusted_young : 3 - month_of adjusted_march ≤ 2_399
adjusted_young = omega (arith, month_2)

adjusted_rated : HighRateExists 20 (band_of adjusted adjusted_march 20).low
unfolding adjusted_opens
adjusted_rated = exists_by 20 542_712_164 refl

-- demand 3 refuses the plain factor as the adjusted one; 14 where the sheet has an adjustment; and any factor where it has none
plain_as_adjusted : (r : SignedPair) → LookTells 2_399 (with_sheet adjusted_march) adjusted factor 20 (done (finding (pair 553_675_753 553_675_756) r 2 1)) → ⊥
plain_as_adjusted r tells =
    let found = (tells.finds adjusted_march (refl, carried) adjusted_young (omega arith) (omega arith) adjusted_rated).found in
    let low : ◌≡◌ {A = ℕ} 553_675_753 (band_of adjusted adjusted_march 20).low = ap low_of found in
    omega (arith, low, adjusted_band)

not-missing : missing adjusted (some adjusted_march) ≡ false
unfolding adjusted_opens
not-missing = refl

adjusted_said_missing : LookTells 2_399 (with_sheet adjusted_march) adjusted factor 20 (refused no_curve) → ⊥
adjusted_said_missing tells = false≢true (sym not-missing ∙ (tells.none_found (omega arith) (omega arith)).0 refl)

is_missing : missing adjusted (some march) ≡ true
unfolding adjusted_opens
is_missing = refl

missing-shown : (f : Finding) → LookTells 2_399 (with_sheet march) adjusted factor 20 (done f) → ⊥
missing-shown f tells = refusal_kept refl ((tells.none_found (omega arith) (omega arith)).1 is_missing)
