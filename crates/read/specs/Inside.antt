-- Inside. What inner functions say; nothing that a caller must believe.
use Rattle.std.specs.Prelude.{ℕ, Option, Some, None}
use Rattle.frame.specs.Walk.{Item, item, unread}
use Rattle.types.specs.declared.ids.AttributeId.{AttributeId}

-- what an answer says of the id that stands somewhere
abbrev pub item_of : Option (AttributeId × ℕ) → Item ℕ
item_of (Some (id, next)) = item id.0 next
item_of None = unread
