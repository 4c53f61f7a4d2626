-- The basis of missed readings of an account kept from before request e of document 02, when an account kept its last period's volume.
use Rattle.std.specs.Prelude.{◌≡◌, Bool, false, List, [], ◌∷◌, ℕ, ◌≤◌}
use Rattle.meter.specs.Metering.{with}
use Rattle.intake.specs.{declared.Status.TheVariants.New, Limits.most_volume}
use Rattle.account.specs.{declared.Account.Account, Calls.with_meter}
use Rattle.audit.specs.Book.{Period, is_absence}

-- The account takes its last period's volume for the basis.
unfoldable pub with_basis : Account → ℕ → Account
with_basis a last_volume = with_meter a a.latest a.status (with a.meter a.meter.digits a.meter.dial a.meter.pool last_volume)

-- The account without one, as an account kept from before comes: 0 in its place.
abbrev pub without_basis : Account → Account
without_basis a = with_basis a 0

-- What number 41 asked of the last period's volume: it is within its limit, and 0 in a new account.
pub record LastVolume (a : Account) (volume : ℕ) : Type 0 where
  pub volume_most : volume ≤ most_volume
  pub none_of_new : a.status ≡ New → volume ≡ 0

-- The last period's volume, of any kind, by the book; before any period it is 0.
abbrev pub last_volume : List Period → ℕ
last_volume [] = 0
last_volume (period ∷ periods) = period.volume

-- The last period is an 04 period.
abbrev pub last_absent : List Period → Bool
last_absent [] = false
last_absent (period ∷ periods) = is_absence period.call
