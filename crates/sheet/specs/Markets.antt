-- The declared profiles, and a sheet's numbers by what their type holds, as the method's. Apart from `Views`, as the type itself cites them.
use Rattle.std.specs.Prelude.{List, ℕ, ℤ, pos, take, Option, is_some, unwrap_or}
use Rattle.method.specs.Sheet as method
use Rattle.method.specs.Sheet.{quote_count, volume_count}
use Rattle.sheet.specs.declared.Profile.{Profile}
use Rattle.sheet.specs.declared.Profile.TheVariants as profile

abbrev pub as_profile : Profile → method.Profile
as_profile profile.Euro = method.Profile.euro
as_profile profile.FromTen = method.Profile.from_ten
as_profile profile.FromFifteen = method.Profile.from_fifteen

-- as many rates and volumes as the market has; an adjustment that is absent counts as 0
abbrev pub numbers_by : Profile → ℕ → List ℤ → List ℕ → ℕ → ℕ → ℕ → Option ℤ → method.Numbers
numbers_by p month rates volumes ultimate limit phase_in adjustment =
    record {
      profile = as_profile p;
      month = month;
      rates = take (quote_count (as_profile p)) rates;
      volumes = take (volume_count (as_profile p)) volumes;
      ultimate = ultimate;
      limit = limit;
      phase_in = phase_in;
      adjusts = is_some adjustment;
      adjustment = unwrap_or adjustment (pos 0);
    }
