-- Where the pool is shared, the periods of known absence take 0. Assumes nothing.
use Rattle.common.proofs.Words.{◌≡◌, refl, Bool, true, false, true≢false, List, [], ◌∷◌, ◌++◌, map, reverse, reverse-cons, ℕ, ◌+◌, ◌-◌}
use mathlib.Core.List.{reverse-reverse}
use Rattle.meter.specs.Sharing.{ceiling, sharers, shares, sharing, shared_pool}
use Rattle.meter.specs.declared.Estimate.{Estimate}

-- one volume for each mark, and 0 where the mark is false
abbrev pub ZeroAt : List Bool → List ℕ → Type 0
ZeroAt [] [] = Unit {0}
ZeroAt [] (v ∷ vs) = ⊥
ZeroAt (m ∷ ms) [] = ⊥
ZeroAt (m ∷ ms) (v ∷ vs) = (m ≡ false → v ≡ 0) × ZeroAt ms vs

zero_shares : (marks : List Bool) (left : ℕ) → ZeroAt marks (shares left marks)
zero_shares [] left = tt
zero_shares (true ∷ marks) left = ((λ e. absurd (true≢false e)), zero_shares marks (left - ceiling left (sharers marks + 1)))
zero_shares (false ∷ marks) left = ((λ _. refl), zero_shares marks left)

zero_append : (ms : List Bool) (vs : List ℕ) (m : Bool) (v : ℕ) → ZeroAt ms vs → (m ≡ false → v ≡ 0)
    → ZeroAt (ms ++ (m ∷ [])) (vs ++ (v ∷ []))
zero_append [] [] m v w h = (h, tt)
zero_append [] (x ∷ vs) m v w h = absurd w
zero_append (k ∷ ms) [] m v w h = absurd w
zero_append (k ∷ ms) (x ∷ vs) m v w h = (w.0, zero_append ms vs m v w.1 h)

zero_reverse : (ms : List Bool) (vs : List ℕ) → ZeroAt ms vs → ZeroAt (reverse ms) (reverse vs)
zero_reverse [] [] w = tt
zero_reverse [] (x ∷ vs) w = absurd w
zero_reverse (m ∷ ms) [] w = absurd w
zero_reverse (m ∷ ms) (v ∷ vs) w =
    rw (reverse-cons m ms, reverse-cons v vs) (zero_append (reverse ms) (reverse vs) m v (zero_reverse ms vs w.1) w.0)

pub absent_zero : (estimates : List Estimate) (pool : ℕ) → ZeroAt (map sharing estimates ++ (true ∷ [])) (shared_pool estimates pool)
unfolding shared_pool
absent_zero estimates pool =
    let marks = map sharing estimates in
    let turned = zero_reverse (true ∷ reverse marks) (shares pool (true ∷ reverse marks)) (zero_shares (true ∷ reverse marks) pool) in
    rw (reverse-cons true (reverse marks), reverse-reverse marks) at turned
