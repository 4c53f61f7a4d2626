-- What of the body is unpaid of the open items of an account kept from before request d of document 02, when items had neither that nor a sum.
use Rattle.std.specs.Prelude.{List, ◌++◌, map, drop}
use Rattle.ledger.specs.{declared.Item.Item, Posting.made, Posting.standing}
use Rattle.account.specs.{declared.Account.Account, Calls.head_of, Calls.account_of}

-- An item starts with the body less what is paid, not below 0, and a sum of 0.
abbrev pub started : Item → Item
started item = made item.due item.kind item.obligation item.amount item.unpaid

-- The item without them, as an account kept from before comes: 0 in both places.
abbrev pub without_parts : Item → Item
without_parts item =
    record {
      amount = item.amount;
      unpaid = item.unpaid;
      share = 0;
      gathered = 0;
      obligation = item.obligation;
      due = item.due;
      kind = item.kind;
    }

-- The account with other items open. The places that hold none stay as they are.
abbrev pub with_items : Account → List Item → Account
with_items a items =
    account_of (head_of a) a.estimates
    (record {
      count = a.ledger.count;
      items = items ++ drop a.ledger.count a.ledger.items;
      held = a.ledger.held;
      credit = a.ledger.credit;
    })

unfoldable pub with_parts : Account → Account
with_parts a = with_items a (map started (standing a.ledger).open_items)

abbrev pub kept_before : Account → Account
kept_before a = with_items a (map without_parts (standing a.ledger).open_items)
