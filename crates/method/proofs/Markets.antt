-- The markets as the computed curve has them, by places in the table of maturities, and as the true curve does, by years: the same.
use mathlib.Core.Path.{◌≡◌, refl, subst}
use mathlib.Core.List.{List}
use Prim.Native.Nat.{◌≤◌}
use lib.Dec.{eqb, lit≤}
use lib.IntN.{ℤ, pos}
use lib.ListN.{length, get_or}
use Rattle.method.specs.Sheet.{maturities, Profile, euro, from_ten, from_fifteen, quote_count, smoothing_index, quoted_maturities, volume_maturities}
use Rattle.method.specs.Sheet.{smoothing_year, Numbers}
use Rattle.method.specs.True.{smoothed_from, volumes_at, beside, smoothing_rate}
use Rattle.method.proofs.Entries.{spelled_out}

pub smoothed_from_lem : (p : Profile) → smoothing_year p ≡ smoothed_from p
unfolding maturities smoothing_year smoothed_from
smoothed_from_lem euro = refl
smoothed_from_lem from_ten = refl
smoothed_from_lem from_fifteen = refl

pub volumes_at_lem : (p : Profile) → volume_maturities p ≡ volumes_at p
unfolding maturities quoted_maturities volume_maturities volumes_at
volumes_at_lem euro = refl
volumes_at_lem from_ten = refl
volumes_at_lem from_fifteen = refl

-- by its year, or by its place
rate_at_lem : (p : Profile) (rs : List ℤ) → length rs ≡ quote_count p →
    get_or (beside (eqb (smoothed_from p)) maturities rs) 0 (pos 0) ≡ get_or rs (smoothing_index p) (pos 0)
unfolding maturities smoothed_from beside
rate_at_lem euro rs h =
    subst (λ (r : List ℤ). get_or (beside (eqb 20) maturities r) 0 (pos 0) ≡ get_or r 12 (pos 0)) (spelled_out (pos 0) rs h) refl
rate_at_lem from_ten rs h =
    subst (λ (r : List ℤ). get_or (beside (eqb 10) maturities r) 0 (pos 0) ≡ get_or r 9 (pos 0)) (spelled_out (pos 0) rs h) refl
rate_at_lem from_fifteen rs h =
    subst (λ (r : List ℤ). get_or (beside (eqb 15) maturities r) 0 (pos 0) ≡ get_or r 11 (pos 0)) (spelled_out (pos 0) rs h) refl

pub smoothing_rate_lem : (s : Numbers) → length s.rates ≡ quote_count s.profile →
    smoothing_rate s ≡ get_or s.rates (smoothing_index s.profile) (pos 0)
unfolding smoothing_rate
smoothing_rate_lem s h = rate_at_lem s.profile s.rates h

-- how far the years from the quotes reach
pub smoothing_least : (p : Profile) → 10 ≤ smoothing_year p
unfolding maturities smoothing_year
smoothing_least euro = lit≤ tt
smoothing_least from_ten = lit≤ tt
smoothing_least from_fifteen = lit≤ tt

pub smoothing_most : (p : Profile) → smoothing_year p ≤ 20
unfolding maturities smoothing_year
smoothing_most euro = lit≤ tt
smoothing_most from_ten = lit≤ tt
smoothing_most from_fifteen = lit≤ tt
