-- Where the growth over the years comes to pass a bound, which is where the halvings of the definitions stop.
use Rattle.std.specs.Prelude.{◌≡◌, ℕ, ◌+◌, ◌<◌, ◌≤◌, min, Bool, true, false, not, ◌&&◌, ◌||◌, nat_le}
use Rattle.zero_rates.specs.Rates.{compound}
use Rattle.rate_search.specs.declared.Growths.{Growths}

abbrev pub unit_squared : ℕ
unit_squared = 1_000_000_000_000_000_000

-- growth is cut to one more than U × U, which no bound passes
abbrev pub cap : ℕ
cap = 1_000_000_000_000_000_001

abbrev pub growth_cut : Bool → ℕ → ℕ → ℕ
growth_cut up m t = min (compound up m t) cap

pub record GrowthsOf (up : Bool) (m t : ℕ) (g : Growths) : Type 0 where
  pub here : g.here ≡ growth_cut up m t
  pub next : g.next ≡ growth_cut up (m + 1) t

-- growth at most a bound
abbrev pub within : Bool → ℕ → ℕ → ℕ → Bool
within up t bound m = nat_le (compound up m t) bound

pub record Between (lo hi m : ℕ) : Type 0 where
  pub from : lo ≤ m
  pub below : m < hi

-- within the bound at m; past it at the next, unless that is the end
abbrev pub confirmed : Bool → ℕ → ℕ → ℕ → ℕ → Bool
confirmed up t bound hi m = within up t bound m && (nat_le hi (m + 1) || not (within up t bound (m + 1)))

-- the same between two ends, of which the first need not be within
pub record Turns (up : Bool) (t bound lo hi m : ℕ) : Type 0 where
  pub between : Between lo hi m
  pub here : lo < m → within up t bound m ≡ true
  pub next : m + 1 < hi → within up t bound (m + 1) ≡ false
