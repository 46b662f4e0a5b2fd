use mathlib.Core.Path.{◌≡◌, sym}
use mathlib.Core.List.{map}
use Prim.Native.Nat.{◌≤◌, ◌<◌}
use native.Mathlib.Omega.{arith}
use lib.ListN.{length, length-map, get_or-map}
use Rattle.rounding.specs.Pairs.{as_pair, as_signed_pair}
use Rattle.extrapolation.proofs.LaterYears.{next, at_refusal, at_end_lem, ranged, after_year}
use Rattle.extrapolation.proofs.extrapolate.Goals as goal
use Rattle.extrapolation.proofs.extrapolate.Goals.{After-next_year-p}

-- the year is worked with its weight
year : (c : After-next_year-p) →
    as_pair c.next_year-p.result
    ≡ next (as_signed_pair c.args.l) (as_signed_pair c.args.f) (map as_pair c.args.weights.now) c.args.start c.loop-i.i (as_pair c.loop-i.p)
year c = rw (get_or-map as_pair c.args.weights.now c.loop-i.i (record { low = 0; high = 0 })) c.next_year-p.ensures

inside : (c : After-next_year-p) → c.loop-i.i < length (map as_pair c.args.weights.now)
inside c = rw (length-map c.args.weights.now as_pair) c.loop-i-test.true

pub next_year-p-requires : goal.next_year-p-requires
next_year-p-requires c =
    let r = c.requires in
    let ws = c.args.weights.now in
    let i = c.loop-i.i in
    let k = rw (length-map ws as_pair, get_or-map as_pair ws i (record { low = 0; high = 0 })) at (r.2.ranges i) in
    let p = c.loop-i.invariant.current in
    (r.0.size, r.1.size, k c.loop-i-test.true, record { low = omega (arith, p.ordered, p.at_most); high = p.at_most })

pub returns-then-p-gt-HIGHEST_FACTOR-clause-outcome : goal.returns-then-p-gt-HIGHEST_FACTOR-clause-outcome
returns-then-p-gt-HIGHEST_FACTOR-clause-outcome c =
    let y = (goal.at.returns-then-p-gt-HIGHEST_FACTOR-clause-outcome c).After-next_year-p in
    sym (at_refusal c.requires.2 c.loop-i.invariant (inside y) (year y) c.if-p-gt-HIGHEST_FACTOR.true)

pub overflow_cast-years : goal.overflow_cast-years
overflow_cast-years c =
    let r = c.requires in
    let y = (goal.at.overflow_cast-years c).After-next_year-p in
    let p = ranged r.2 c.loop-i.invariant (inside y) (year y) c.if-p-gt-HIGHEST_FACTOR.false r.0.ordered r.1.ordered in
    record { fits = omega (arith, p.ordered, p.at_most) }

pub loop-i-preserved : goal.loop-i-preserved
loop-i-preserved c =
    let r = c.requires in
    let y = (goal.at.loop-i-preserved c).After-next_year-p in
    after_year r.2 c.loop-i.invariant (inside y) (year y) c.if-p-gt-HIGHEST_FACTOR.false r.0.ordered r.1.ordered

pub returns-clause-outcome : goal.returns-clause-outcome
returns-clause-outcome c =
    let all : length (map as_pair c.args.weights.now) ≤ c.loop-i.i = rw (length-map c.args.weights.now as_pair) c.loop-i-test.false in
    sym (at_end_lem c.requires.2 c.loop-i.invariant all)
