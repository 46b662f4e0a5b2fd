-- What the contracts cite beside the definitions of the crate method.
use Rattle.std.specs.Prelude.{Bool, true, false, ℕ, neg_ℤ}
use Rattle.method.specs.Units.{SignedPair, signed_pair}
use Rattle.method.specs.Series.{growth_low, growth_high}

-- E by side: the high, with what is added to it, or the low
abbrev pub growth_by : Bool → ℕ → ℕ
growth_by true = growth_high
growth_by false = growth_low

-- the low is minus the high
abbrev pub negated : SignedPair → SignedPair
negated p = signed_pair (neg_ℤ p.high) (neg_ℤ p.low)
