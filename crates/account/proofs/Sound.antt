-- What stands on a ledger stays whole through postings. Assumes nothing.
use Rattle.common.proofs.Words.{◌≡◌, ap, sym, subst, ◌⊎◌, inl, inr, ⊎_elim, true, false≢true, List, [], ◌∷◌, ◌++◌, ℕ, ◌+◌, ◌*◌}
use Rattle.common.proofs.Words.{◌≤◌, ◌<◌, le_refl, le_trans, le_of_lt, arith, ℤ, length, length-append}
use Rattle.lists.specs.Every.{Every}
use Rattle.lists.proofs.Every.{every_append, every_map}
use Rattle.duedays.specs.DueDays.{due_day, list_allowed}
use Rattle.duedays.proofs.DueDays.{due_from, due_most}
use Rattle.ledger.specs.Limits.{last_call_day, capacity, most_price, most_interest, most_arisen, most_credit}
use Rattle.ledger.specs.Posting.{Standing, new_item, entered, post, none_held, closed, paid, held_posted}
use Rattle.ledger.specs.Posting.{charge_of, credit_of, standing, stored}
use Rattle.ledger.specs.{declared.Kind.Kind, declared.Kind.TheVariants.Interest, declared.Kind.TheVariants.Price, declared.Item.Item}
use Rattle.ledger.specs.{Interest.is_price, Interest.interest_on, Settling.reduced}
use Rattle.ledger.proofs.Interest.{PartFacts, made_facts, reduced_facts, gathered_most, body_most, interest_most}
use Rattle.ledger.proofs.Settling.{settle_keeps, arisen_most, left_or_none}
use Rattle.ledger.proofs.Posting.{by_entered, entered_count}
use Rattle.account.proofs.Facts.{ItemFacts, LedgerFacts}

pub item_later : (latest day : ℕ) → latest ≤ day → (item : Item) → ItemFacts latest item → ItemFacts day item
item_later latest day h item w = search le_trans

-- What 41 asks of an item, and what holds of it along a list of calls.
pub record Owed (day : ℕ) (item : Item) : Type 0 where
  pub facts : ItemFacts day item
  pub parts : PartFacts item

pub owed_both : (day : ℕ) (items : List Item) → Every (ItemFacts day) items → Every PartFacts items → Every (Owed day) items
owed_both day [] w p = tt
owed_both day (item ∷ items) w p = (record { facts = w.0; parts = p.0 }, owed_both day items w.1 p.1)

item_reduced : (day : ℕ) → day ≤ last_call_day → (item : Item) (money : ℕ) → Owed day item → money < item.unpaid
    → Owed day (reduced day item money)
item_reduced day d item money w h =
    let after = reduced_facts day d item money w.parts (le_of_lt h) in
    let gathers = gathered_most (reduced day item money) after in
    let facts = w.facts in
    record { facts = search arith; parts = after }

-- What is posted on a day that calls take.
entered_owed : (holidays : List ℕ) (kind : Kind) (day amount : ℕ) → list_allowed holidays ≡ true → day ≤ last_call_day
    → (is_price kind ≡ true → amount ≤ most_price) → amount ≤ most_interest
    → Every (Owed day) (entered holidays kind day amount)
entered_owed holidays kind day amount listed h price most =
    by_entered holidays kind day amount (Every (Owed day)) (λ none. tt) (λ some. (fresh some, tt))
  where
    fresh : 0 < amount → Owed day (new_item holidays kind day amount)
    fresh some =
        let due = due_most holidays day listed h in
        let share = body_most kind amount day in
        let later = due_from holidays day in
        record {
          facts = search arith;
          parts = made_facts (due_day holidays day) kind day amount amount (omega arith) (le_refl amount) price;
        }

-- Whole items, and credit only where none is open.
pub record Sound (day : ℕ) (s : Standing) : Type 0 where
  pub items : Every (ItemFacts day) s.open_items
  pub settled : (s.credit ≡ 0) ⊎ (s.open_items ≡ [])

-- Interest held is bounded with the places of the open items: each item settled brings at most 10^10, and frees its place.
abbrev pub load : Standing → ℕ
load s = s.held + length s.open_items * most_arisen

-- Two items are posted at most.
abbrev pub most_load : ℕ
most_load = (capacity + 2) * most_arisen

-- What a list of calls keeps to, beside what 41 asks.
pub record Limited (s : Standing) : Type 0 where
  pub load_most : load s ≤ most_load
  pub parts : Every PartFacts s.open_items

pub record Bounded (day : ℕ) (s : Standing) : Type 0 where
  pub sound : Sound day s
  pub limited : Limited s

pub held_most : (day : ℕ) (s : Standing) → Bounded day s → s.held ≤ most_interest
held_most day s w = omega (arith, w.limited.load_most)

pub bounded_owed : (day : ℕ) (s : Standing) → Bounded day s → Every (Owed day) s.open_items
bounded_owed day s w = owed_both day s.open_items w.sound.items w.limited.parts

module _ (day money : ℕ) (items : List Item) (s : Standing) (h : day ≤ last_call_day)
    (old : Every (Owed day) s.open_items) (new : Every (Owed day) items) where
  all : Every (Owed day) (s.open_items ++ items)
  all = every_append (Owed day) s.open_items items old new

  stay : Every (Owed day) (post day money items s).open_items
  unfolding post
  stay = settle_keeps (Owed day) day (item_reduced day h) (s.credit + money) (s.open_items ++ items) all

  post_sound : Sound day (post day money items s)
  unfolding post
  post_sound =
      record {
        items = every_map (Owed day) (ItemFacts day) (λ _ w. w.facts) (post day money items s).open_items stay;
        settled = left_or_none day (s.credit + money) (s.open_items ++ items);
      }

  post_parts : Every PartFacts (post day money items s).open_items
  post_parts = every_map (Owed day) PartFacts (λ _ w. w.parts) (post day money items s).open_items stay

  post_bounded : load s + length items * most_arisen ≤ most_load → Bounded day (post day money items s)
  unfolding post
  post_bounded most =
      let xs = s.open_items ++ items in
      let within = every_map (Owed day) (λ x. interest_on x day ≤ most_arisen) (λ x w. interest_most x day h w.parts) xs all in
      let arisen = arisen_most most_arisen day (s.credit + money) xs within in
      record {
        sound = post_sound;
        limited = record { load_most = omega (arith, arisen, length-append s.open_items items); parts = post_parts };
      }

pub paid_bounded : (day yen : ℕ) (s : Standing) → day ≤ last_call_day → Bounded day s → Bounded day (paid day yen s)
unfolding paid
paid_bounded day yen s h w = post_bounded day yen [] s h (bounded_owed day s w) tt (omega (arith, w.limited.load_most))

-- Interest held is posted.
module _ (holidays : List ℕ) (day : ℕ) (s : Standing) (listed : list_allowed holidays ≡ true)
    (h : day ≤ last_call_day) (w : Bounded day s) where
  abbrev posted : List Item
  posted = entered holidays Interest day s.held

  held_owed : Every (Owed day) posted
  held_owed = entered_owed holidays Interest day s.held listed h (λ e. absurd (false≢true e)) (held_most day s w)

  pub closed_bounded : (net : ℤ) → charge_of net ≤ most_price → length s.open_items ≤ capacity → Bounded day (closed holidays day net s)
  unfolding closed
  closed_bounded net charge places =
      let priced = entered holidays Price day (charge_of net) in
      let price-owed = entered_owed holidays Price day (charge_of net) listed h (λ _. charge) (omega arith) in
      let new = every_append (Owed day) posted priced held_owed price-owed in
      let few = entered_count holidays Interest day s.held in
      let few-priced = entered_count holidays Price day (charge_of net) in
      post_bounded day (credit_of net) (posted ++ priced) (none_held s) h (bounded_owed day s w) new
      (omega (arith, length-append posted priced, few, few-priced))

  -- by itself: then nothing is held
  pub posted_bounded : (held_posted holidays day s).held ≡ 0 → length (held_posted holidays day s).open_items ≤ capacity
      → Bounded day (held_posted holidays day s)
  unfolding held_posted
  posted_bounded none places =
      let owed = bounded_owed day s w in
      record {
        sound = post_sound day 0 posted (none_held s) h owed held_owed;
        limited = record { load_most = omega (arith, none, places); parts = post_parts day 0 posted (none_held s) h owed held_owed };
      }

-- A standing that is stored.
pub stored_facts : (day : ℕ) (s : Standing) → Sound day s → length s.open_items ≤ capacity → s.credit ≤ most_credit
    → s.held ≤ most_interest → standing (stored s) ≡ s → LedgerFacts day (stored s)
stored_facts day s w places credit held same =
    record {
      count_most = places;
      items = subst (λ (x : Standing). Every (ItemFacts day) x.open_items) (sym same) w.items;
      held_most = held;
      credit_most = credit;
      credit_or_none = ⊎_elim inl (λ (e : s.open_items ≡ []). inr (ap length e)) w.settled;
    }
