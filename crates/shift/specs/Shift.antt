-- SPECIFICATION 7.4: the smallest shift of a sheet's quotes at which a block's high is at most a target, with ground 23.
use Rattle.std.specs.Prelude.{Bool, true, false, cond, ◌&&◌, List, [], ◌∷◌, map, ℕ, zero, suc, leb, ℤ, pos, ◌+ℤ◌, ◌-ℤ◌}
use Rattle.std.specs.Int.Signed.{le_z}
use Rattle.method.specs.Grounds.{no_shift, Outcome, refused, done, ◌>>=◌}
use Rattle.method.specs.Sheet.{rate, lowest, highest, Numbers, read_sheet}
use Rattle.method.specs.Curve.{Curves, curves_of}
use Rattle.method.specs.Enclosure.{high_of}
use Rattle.valuation.specs.Block.{Flow, block_checked, worth_of}

-- ---- the shifted sheet

-- s is added to every quote, one that is not used too
abbrev pub shifted_rates : ℤ → List ℤ → List ℤ
shifted_rates s rates = map (λ z. z +ℤ s) rates

-- all else is the sheet's
unfoldable pub shifted : ℤ → Numbers → Numbers
shifted s n =
    record {
      profile = n.profile;
      month = n.month;
      rates = shifted_rates s n.rates;
      volumes = n.volumes;
      ultimate = n.ultimate;
      limit = n.limit;
      phase_in = n.phase_in;
      adjusts = n.adjusts;
      adjustment = n.adjustment;
    }

-- of 19 and 1 to 4, which the sheet passed, only 3 can apply, to its quotes
unfoldable pub quotes_inside : List ℤ → Bool
quotes_inside [] = true
quotes_inside (z ∷ zs) = le_z (lowest rate) z && (le_z z (highest rate) && quotes_inside zs)

-- ---- whether a shift does: 3, then 7 to 10, then the block's high on the plain curve

abbrev pub high_at_most : List Flow → ℕ → Outcome Curves → Bool
high_at_most fs target (refused g) = false
high_at_most fs target (done cs) = leb (worth_of true (high_of cs.plain) fs) target

unfoldable pub meets : List Flow → ℕ → Numbers → ℤ → Bool
meets fs target n s = quotes_inside (shifted_rates s n.rates) && high_at_most fs target (curves_of (shifted s n))

-- ---- the first that does, from -500 up to 500: the one at i, from 0, is i - 500

abbrev pub shift_at : ℕ → ℤ
shift_at i = pos i -ℤ pos 500

abbrev pub shift_count : ℕ
shift_count = 1_001

-- among so many, from the one at i on
unfoldable pub first_shift : (ℤ → Bool) → ℕ → ℕ → Outcome ℤ
first_shift does zero i = refused no_shift
first_shift does (suc k) i = cond (does (shift_at i)) (done (shift_at i)) (first_shift does k (suc i))

-- 19 and 1 to 4 of the sheet, 20 to 22 of the list, then 23
unfoldable pub shift_for : List ℕ → List Flow → ℕ → Outcome ℤ
shift_for sheet fs target = do
  n ← read_sheet sheet
  _ ← block_checked fs
  first_shift (meets fs target n) shift_count 0
