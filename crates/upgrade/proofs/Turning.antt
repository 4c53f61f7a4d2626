-- The walk that works closing days out, from behind. Assumes nothing.
use Rattle.common.proofs.Words.{◌≡◌, refl, sym, ap, List, [], ◌∷◌, ◌++◌, append-nil, ℕ, zero, suc, ◌-◌, ◌≤◌, ◌<◌, le_refl, sub-zero, arith}
use Rattle.common.proofs.Words.{length, length-append, length-drop, length-take, get_or, get_or-set_same, set, take, take_all}
use Rattle.common.proofs.Words.{drop, drop-cons, drop_of_length-le}
use Rattle.meter.specs.declared.Estimate.{Estimate}
use Rattle.upgrade.proofs.{Places.read_back, Places.put_back, ClosingDays.followed_length}
use Rattle.upgrade.specs.ClosingDays.{closed_on, days_in, followed_by}

-- Of the place that the walk from behind comes to.
pub followed_at : (start : ℕ) (es : List Estimate) (i : ℕ) (d : Estimate) → i < length es
    → get_or (followed_by start es) i d ≡ closed_on (start - 1 - days_in (drop (suc i) es)) (get_or es i d)
followed_at start [] i d h = absurd (omega arith)
followed_at start (e ∷ es) zero d h = refl
followed_at start (e ∷ es) (suc i) d h = followed_at start es i d (omega arith)

-- Each place is turned from behind: those before it are as they were, those behind it follow on each other.
pub record Turned (start : ℕ) (estimates now : List Estimate) (i closing_day : ℕ) : Type 0 where
  pub left : i ≤ length estimates
  pub closing_is : closing_day ≡ start - 1 - days_in (drop i estimates)
  pub now_is : now ≡ take i estimates ++ drop i (followed_by start estimates)

pub turned_first : (start : ℕ) (es : List Estimate) → Turned start es es (length es) (start - 1)
turned_first start es =
    let none = drop_of_length-le es (le_refl (length es)) in
    let none_behind = drop_of_length-le (followed_by start es) {i = length es} (omega (arith, followed_length start es)) in
    record {
      left = le_refl (length es);
      closing_is = rw none (sym (sub-zero (start - 1)));
      now_is = rw (none_behind, take_all (length es) es (le_refl (length es)), append-nil es) refl;
    }

pub turned_next : {start : ℕ} {es now : List Estimate} {k closing_day : ℕ} (d : Estimate) → Turned start es now (suc k) closing_day
    → let after = set now k (closed_on closing_day (get_or now k d)) in
    Turned start es after k (closing_day - (get_or after k d).period.days)
turned_next {start = start} {es = es} {now = now} {k = k} {closing_day = closing_day} d w =
    let fits : k < length es = omega (arith, w.left) in
    let long = followed_length start es in
    let read : get_or now k d ≡ get_or es k d = rw w.now_is (read_back es (followed_by start es) d k fits) in
    let turned : closed_on closing_day (get_or now k d) ≡ get_or (followed_by start es) k d =
    rw (read, followed_at start es k d fits) (ap (λ day. closed_on day (get_or es k d)) w.closing_is) in
    let after : set now k (closed_on closing_day (get_or now k d)) ≡ take k es ++ drop k (followed_by start es) =
    rw (turned, w.now_is) (put_back es (followed_by start es) d k fits (sym long)) in
    let whole = length-append (take (suc k) es) (drop (suc k) (followed_by start es)) in
    let behind = length-drop (suc k) (followed_by start es) in
    let all : length now ≡ length es = rw w.now_is (omega (arith, whole, length-take (suc k) es, behind, long)) in
    let same = get_or-set_same now k (closed_on closing_day (get_or now k d)) d (omega (arith, all, fits)) in
    record {
      left = omega (arith, w.left);
      closing_is = rw (same, drop-cons es k d fits) (omega (arith, w.closing_is, ap (λ (e : Estimate). e.period.days) read));
      now_is = after;
    }
