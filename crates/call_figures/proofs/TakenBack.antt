-- Posts taken back, by computation: told month 10 and five posts, of months 1 to 5; and one post on a fresh book. What is seen of one book
-- stands in one list, so that its curve is worked once.
use mathlib.Core.Path.{◌≡◌, refl, ap}
use mathlib.Core.List.{List, [], ◌∷◌, ◌++◌}
use Prim.Native.Nat.{ℕ}
use native.Mathlib.Omega.{arith}
use lib.ListN.{replicate}
use Rattle.method.specs.Units.{plain, pair, SignedPair}
use Rattle.method.specs.Grounds.{no_curve, Outcome, refused, done}
use Rattle.zero_rates.specs.Meaning.{HighRateExists}
use Rattle.zero_rates.proofs.Theorem.{exists_by}
use Rattle.ledger.specs.Answers.{factor, Finding, finding}
use Rattle.ledger.specs.Book.{Book, post, withdraw}
use Rattle.ledger.specs.Calls.{Call, post_of, turn_to, withdrawal, run}
use Rattle.ledger.specs.Count.{Count, month_of, count}
use Rattle.ledger.specs.Tells.{band_of, Finds, LookTells}
use Rattle.ledger.proofs.Asked.{refusal_kept}
use Rattle.call_figures.proofs.Days.{flat, opens, look, answers, low_of}

-- all rates 0.1% in month 1, 0.2% in month 2, and so on
second : List ℕ
second = flat 2 200

five_posts : List Call
five_posts =
    turn_to 10 ∷ post_of (flat 1 100) ∷ post_of second ∷ post_of (flat 3 300) ∷ post_of (flat 4 400) ∷ post_of (flat 5 500) ∷ []

-- after three withdrawals the second post stands. A fourth is answered 18, and the curve is still found; 6 goes by the second post's month
three_back : Book → List (List ℕ)
three_back b =
    look b 1
    ∷ answers (withdraw b).answer
    ∷ look (withdraw b).book 1
    ∷ answers (post b (flat 1 0)).answer
    ∷ answers (post b (flat 2 0)).answer
    ∷ []

-- no curve, nothing to withdraw, and any month that is told can be posted
none_back : Book → List (List ℕ)
none_back b = look b 1 ∷ answers (withdraw b).answer ∷ answers (post b (flat 0 0)).answer ∷ []

back_opens : ℕ
unfolding opens second five_posts three_back none_back
back_opens = 0

three_back_seen :
    three_back (run 2_399 (five_posts ++ replicate 3 withdrawal))
    ≡ (0 ∷ 998_003_992 ∷ 998_003_993 ∷ 2 ∷ 8 ∷ [])
    ∷ (18 ∷ [])
    ∷ (0 ∷ 998_003_992 ∷ 998_003_993 ∷ 2 ∷ 8 ∷ [])
    ∷ (6 ∷ [])
    ∷ (0 ∷ [])
    ∷ []
unfolding back_opens
three_back_seen = refl

none_back_seen : none_back (run 2_399 (post_of (flat 0 100) ∷ withdrawal ∷ [])) ≡ (14 ∷ []) ∷ (18 ∷ []) ∷ (0 ∷ []) ∷ []
unfolding back_opens
none_back_seen = refl

-- the count of the same calls
abbrev back : Count
back = record { told = 10; posts = second ∷ flat 1 100 ∷ []; depth = 0 }

back_counted : count (five_posts ++ replicate 3 withdrawal) ≡ back
unfolding back_opens
back_counted = refl

-- ---- demand 3 refuses the fifth post's factor, which was withdrawn; the second's under the fifth's month; and 14

second_low : (band_of plain second 1).low ≡ 998_003_992
unfolding back_opens
second_low = refl

second_month : month_of second ≡ 2
unfolding back_opens
second_month = refl

second_rated : HighRateExists 1 (band_of plain second 1).low
unfolding back_opens
second_rated = exists_by 1 998_003_992 refl

second_found : (a : Outcome Finding) → LookTells 2_399 back plain factor 1 a → Finds back plain factor second 1 a
second_found a tells = tells.finds second (refl, refl) (omega (arith, second_month)) (omega arith) (omega arith) second_rated

withdrawn_shown : (r : SignedPair) → LookTells 2_399 back plain factor 1 (done (finding (pair 995_024_875 995_024_876) r 5 5)) → ⊥
withdrawn_shown r tells =
    let low : ◌≡◌ {A = ℕ} 995_024_875 (band_of plain second 1).low = ap low_of (second_found _ tells).found in
    omega (arith, low, second_low)

month_of_lem : Outcome Finding → ℕ
month_of_lem (refused g) = 0
month_of_lem (done f) = f.month

month_kept : (r : SignedPair) → LookTells 2_399 back plain factor 1 (done (finding (pair 998_003_992 998_003_993) r 5 5)) → ⊥
unfolding month_of_lem
month_kept r tells =
    let month : ◌≡◌ {A = ℕ} 5 (month_of second) = ap month_of_lem (second_found _ tells).found in
    omega (arith, month, second_month)

second_missing : LookTells 2_399 back plain factor 1 (refused no_curve) → ⊥
second_missing tells = refusal_kept (second_found _ tells).found refl
