-- The starred figures hold, each by computing the definitions. Assumes nothing.
use Rattle.common.proofs.Words.{refl}
use Rattle.tax.specs.Rate.{tax_rate}
use Rattle.tariff.specs.Fuel.{average_price, price_change, steps, adjusted_unit}
use Rattle.tariff.specs.Price.{full_month, basic_charge, band_volume, price_in, price_of}
use Rattle.tariff.specs.Bands.{band_of}
use Rattle.meter.specs.{Dial.span, Dial.advance, Sharing.shared_pool, Sharing.final_volumes}
use Rattle.duedays.specs.DueDays.{due_day}
use Rattle.ledger.specs.Interest.{body, counted_days, borne}
use Rattle.closing.specs.Closing.{net_of}
use Rattle.figures.specs.Starred.{Starred}

pub starred : Starred
unfolding tax_rate average_price price_change steps adjusted_unit band_of full_month basic_charge band_volume price_in price_of span advance
    shared_pool final_volumes due_day body counted_days borne net_of
starred =
    record {
      average = refl;
      no_change = refl;
      unit_below = refl;
      unit_above = refl;
      small_band = refl;
      large_band = refl;
      short_period = refl;
      long_period = refl;
      roll_over = refl;
      one_miss = refl;
      one_miss_net = refl;
      two_misses = refl;
      ten_days_late = refl;
      eleven_days_late = refl;
    }
