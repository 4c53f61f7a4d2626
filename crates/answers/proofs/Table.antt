-- The table of pairs shows each byte, by one computed test over the table. Assumes nothing.
use Rattle.std.proofs.lemmas.Bool.{agree_below_at}
use Rattle.common.proofs.Words.{◌≡◌, refl, Bool, true, ◌&&◌, and-eq-true_iff, ℕ, ◌+◌, ◌*◌, ◌/◌, ◌%◌, ◌<◌, eqb, eqb-true, get_or}
use Rattle.frames.specs.Digits.{glyph}
use Rattle.answers.specs.declared.pairs.TheConstants.{PAIRS}

-- the two characters of byte b stand at 2b and 2b + 1
pub record Pair (byte : ℕ) : Type 0 where
  pub high : get_or PAIRS (2 * byte) 0 ≡ glyph (byte / 16)
  pub low : get_or PAIRS (2 * byte + 1) 0 ≡ glyph (byte % 16)

pub pair : (byte : ℕ) → byte < 256 → Pair byte
pair byte h =
    let both = (and-eq-true_iff (high byte) (low byte)).0 (agree_below_at (λ b. high b && low b) (λ _. true) 256 byte refl h) in
    record { high = eqb-true _ _ both.0; low = eqb-true _ _ both.1 }
  where
    high : ℕ → Bool
    high b = eqb (get_or PAIRS (2 * b) 0) (glyph (b / 16))

    low : ℕ → Bool
    low b = eqb (get_or PAIRS (2 * b + 1) 0) (glyph (b % 16))
