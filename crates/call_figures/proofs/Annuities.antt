-- Annuity sums, by computation: of a level curve, after another post, and after its withdrawal; and sums that demand 3 refuses.
use mathlib.Core.Path.{◌≡◌, refl, ap}
use mathlib.Core.Bool.{true}
use mathlib.Core.List.{List, [], ◌∷◌, ◌++◌, map}
use Prim.Native.Nat.{ℕ}
use native.Mathlib.Omega.{arith}
use lib.IntN.{ℤ, pos}
use lib.ListN.{replicate}
use lib.Signed.{le_z_yes}
use Rattle.method.specs.Units.{Which, plain, adjusted, pair, SignedPair, signed_pair}
use Rattle.method.specs.Grounds.{Outcome, refused, done}
use Rattle.figures.specs.Figures.{sheet_of}
use Rattle.zero_rates.specs.Meaning.{grown, AtMost, HighRateExists}
use Rattle.zero_rates.proofs.Theorem.{exists_by}
use Rattle.valuation.specs.Meaning.{sum_to}
use Rattle.ledger.specs.Answers.{sum, Finding, finding}
use Rattle.ledger.specs.Book.{Book, look_up}
use Rattle.ledger.specs.Calls.{post_of, turn_to, withdrawal, run}
use Rattle.ledger.specs.Count.{Count, month_of, carries}
use Rattle.ledger.specs.Tells.{band_of, shown_of, Finds, LookTells}
use Rattle.call_figures.proofs.Days.{opens, found, steep, low_of, low_rate_of}

-- all rates 3%, the ultimate one too, in month 1; and with an adjustment of 0.1% in month 2
unfoldable pub level : List ℕ
level = sheet_of 1 (replicate 17 3_000) (replicate 5 1) 3_000 100_000

unfoldable pub raised : List ℕ
raised = sheet_of 2 (replicate 17 3_000) (replicate 5 1) 3_000 100_000 ++ 0x07 ∷ 0 ∷ 100 ∷ []

-- a sum: the ground's number, or 0, low, high, month and age
annuity : Book → Which → ℕ → List ℕ
annuity b w y = found (look_up b w sum y)

rates_beside : Outcome Finding → List ℤ
rates_beside (refused g) = []
rates_beside (done f) = f.low_rate ∷ f.high_rate ∷ []

sums_open : ℕ
unfolding opens steep level raised annuity rates_beside sum_to
sums_open = 0

level_sums : map (annuity (run 2_399 (turn_to 3 ∷ post_of level ∷ [])) plain) (1 ∷ 2 ∷ 20 ∷ 150 ∷ 0 ∷ 151 ∷ [])
    ≡ (0 ∷ 970_873_786 ∷ 970_873_787 ∷ 1 ∷ 2 ∷ [])
    ∷ (0 ∷ 1_913_469_695 ∷ 1_913_469_697 ∷ 1 ∷ 2 ∷ [])
    ∷ (0 ∷ 14_877_474_821 ∷ 14_877_474_897 ∷ 1 ∷ 2 ∷ [])
    ∷ (0 ∷ 32_937_687_927 ∷ 32_937_702_762 ∷ 1 ∷ 2 ∷ [])
    ∷ (13 ∷ [])
    ∷ (13 ∷ [])
    ∷ []
unfolding sums_open
level_sums = refl

-- the rates are the factor's
level_rates : rates_beside (look_up (run 2_399 (post_of (sheet_of 0 (replicate 17 3_000) (replicate 5 1) 3_000 100_000) ∷ [])) plain sum 20)
    ≡ pos 2_999 ∷ pos 3_001 ∷ []
unfolding sums_open
level_rates = refl

-- ---- a post renews the sums, and each curve has its own; its withdrawal brings back those before it, and no adjusted ones

lower : List ℕ
lower = sheet_of 1 (replicate 17 200) (replicate 5 1) 0 100_000

both_sums : Book → List (List ℕ)
both_sums b = annuity b plain 20 ∷ annuity b adjusted 2 ∷ annuity b adjusted 20 ∷ annuity b adjusted 150 ∷ []

both_open : ℕ
unfolding sums_open lower both_sums
both_open = 0

raised_sums : both_sums (run 2_399 (turn_to 3 ∷ post_of lower ∷ post_of raised ∷ []))
    ≡ (0 ∷ 14_877_474_821 ∷ 14_877_474_897 ∷ 2 ∷ 1 ∷ [])
    ∷ (0 ∷ 1_910_615_980 ∷ 1_910_616_003 ∷ 2 ∷ 1 ∷ [])
    ∷ (0 ∷ 14_736_710_876 ∷ 14_736_712_013 ∷ 2 ∷ 1 ∷ [])
    ∷ (0 ∷ 32_411_770_804 ∷ 32_411_789_723 ∷ 2 ∷ 1 ∷ [])
    ∷ []
unfolding both_open
raised_sums = refl

lower_sums : both_sums (run 2_399 (turn_to 3 ∷ post_of lower ∷ post_of raised ∷ withdrawal ∷ []))
    ≡ (0 ∷ 19_586_089_805 ∷ 19_586_089_864 ∷ 1 ∷ 2 ∷ [])
    ∷ (14 ∷ [])
    ∷ (14 ∷ [])
    ∷ (14 ∷ [])
    ∷ []
unfolding both_open
lower_sums = refl

-- a year without a high rate answers 17 for its sum too, and a later year that has one its own
steep_sums : map (annuity (run 2_399 (post_of steep ∷ [])) plain) (9 ∷ 17 ∷ 18 ∷ 150 ∷ [])
    ≡ (0 ∷ 9_000_000_000 ∷ 9_000_000_000 ∷ 0 ∷ 0 ∷ [])
    ∷ (17 ∷ [])
    ∷ (0 ∷ 9_000_055_112 ∷ 9_000_055_156 ∷ 0 ∷ 0 ∷ [])
    ∷ (17 ∷ [])
    ∷ []
unfolding both_open
steep_sums = refl

-- ---- demand 3 refuses a sum that is a year short, a high for a low, the plain curve's sum for the adjusted one's, one that the post did not
-- renew, one that its withdrawal left, and rates worked from the sum

abbrev posted : List (List ℕ) → Count
posted ss = record { told = 3; posts = ss; depth = 1 }

plain_low : (shown_of sum plain raised 2).low ≡ 1_913_469_695
unfolding both_open
plain_low = refl

adjusted_low : (shown_of sum adjusted raised 2).low ≡ 1_910_615_980
unfolding both_open
adjusted_low = refl

lower_low : (shown_of sum plain lower 2).low ≡ 1_994_015_960
unfolding both_open
lower_low = refl

raised_month : month_of raised ≡ 2
unfolding both_open
raised_month = refl

lower_month : month_of lower ≡ 1
unfolding both_open
lower_month = refl

raised_carries : carries adjusted raised ≡ true
unfolding both_open
raised_carries = refl

plain_rated : HighRateExists 2 (band_of plain raised 2).low
unfolding both_open
plain_rated = exists_by 2 942_595_909 refl

adjusted_rated : HighRateExists 2 (band_of adjusted raised 2).low
unfolding both_open
adjusted_rated = exists_by 2 940_712_589 refl

lower_rated : HighRateExists 2 (band_of plain lower 2).low
unfolding both_open
lower_rated = exists_by 2 996_011_968 refl

raised_found : (a : Outcome Finding) → LookTells 2_399 (posted (raised ∷ lower ∷ [])) plain sum 2 a → Finds (posted (raised ∷ lower ∷ [])) plain sum raised 2 a
raised_found a tells = tells.finds raised (refl, refl) (omega (arith, raised_month)) (omega arith) (omega arith) plain_rated

year_short : (r : SignedPair) → LookTells 2_399 (posted (raised ∷ lower ∷ [])) plain sum 2 (done (finding (pair 970_873_786 970_873_787) r 2 1)) → ⊥
year_short r tells =
    let low : ◌≡◌ {A = ℕ} 970_873_786 (shown_of sum plain raised 2).low = ap low_of (raised_found _ tells).found in
    omega (arith, low, plain_low)

high_for_low : (r : SignedPair) → LookTells 2_399 (posted (raised ∷ lower ∷ [])) plain sum 2 (done (finding (pair 1_913_469_697 1_913_469_697) r 2 1)) → ⊥
high_for_low r tells =
    let low : ◌≡◌ {A = ℕ} 1_913_469_697 (shown_of sum plain raised 2).low = ap low_of (raised_found _ tells).found in
    omega (arith, low, plain_low)

not_renewed : (r : SignedPair) → LookTells 2_399 (posted (raised ∷ lower ∷ [])) plain sum 2 (done (finding (pair 1_994_015_960 1_994_015_962) r 2 1)) → ⊥
not_renewed r tells =
    let low : ◌≡◌ {A = ℕ} 1_994_015_960 (shown_of sum plain raised 2).low = ap low_of (raised_found _ tells).found in
    omega (arith, low, plain_low)

plain_for_adjusted : (r : SignedPair) → LookTells 2_399 (posted (raised ∷ [])) adjusted sum 2 (done (finding (pair 1_913_469_695 1_913_469_697) r 2 1)) → ⊥
plain_for_adjusted r tells =
    let finds = tells.finds raised (refl, raised_carries) (omega (arith, raised_month)) (omega arith) (omega arith) adjusted_rated in
    let low : ◌≡◌ {A = ℕ} 1_913_469_695 (shown_of sum adjusted raised 2).low = ap low_of finds.found in
    omega (arith, low, adjusted_low)

left_by_withdrawal : (r : SignedPair) → LookTells 2_399 (posted (lower ∷ [])) plain sum 2 (done (finding (pair 1_913_469_695 1_913_469_697) r 1 2)) → ⊥
left_by_withdrawal r tells =
    let finds = tells.finds lower (refl, refl) (omega (arith, lower_month)) (omega arith) (omega arith) lower_rated in
    let low : ◌≡◌ {A = ℕ} 1_913_469_695 (shown_of sum plain lower 2).low = ap low_of finds.found in
    omega (arith, low, lower_low)

-- at 2.999% the factor's growth still passes, so that no rate below it is the year's
still_passes : AtMost 2 (band_of plain raised 2).high (pos 2_999)
unfolding both_open grown
still_passes = le_z_yes tt

rates_of_sum : (high : ℤ) → LookTells 2_399 (posted (raised ∷ lower ∷ [])) plain sum 2
    (done (finding (pair 1_913_469_695 1_913_469_697) (signed_pair (pos 0) high) 2 1)) → ⊥
unfolding low_rate_of
rates_of_sum high tells =
    let finds = raised_found _ tells in
    let shown : pos 0 ≡ finds.rates.low = ap low_rate_of finds.found in
    let largest = finds.band_rates.low_rate.none_above (pos 2_999) (record { from = le_z_yes tt; to = le_z_yes tt }) still_passes in
    (rw (← shown) at largest).le
