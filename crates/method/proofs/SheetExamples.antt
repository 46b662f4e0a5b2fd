-- Numbers at the ends of the ranges that are below 0, as 16 bits: a sign that is lost shows here.
use mathlib.Core.Path.{◌≡◌, refl}
use lib.IntN.{negsuc}
use Rattle.method.specs.Sheet.{rate, adjustment, reading}

rate_below_0 : reading rate 0xF830 ≡ negsuc 1_999
rate_below_0 = refl

adjustment_below_0 : reading adjustment 0xFE0C ≡ negsuc 499
adjustment_below_0 = refl
