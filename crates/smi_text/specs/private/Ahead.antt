-- What is left of a text while it is read: the item that the lexer returned last, and those that
-- it will still return.
use Rattle.std.specs.Prelude.{List, [], ◌∷◌, Option, Some, None, Result}
use Rattle.smi_text.specs.{lexer.Token.Item, lexer.Token.item_of, declared.lexer.token.Token.Token}
use Rattle.smi_text.specs.declared.lexer.token.LexError.{LexError}

-- the item that the lexer returned last, followed by the `items` that it will still return; empty
-- if the lexer returned None
abbrev pub items_left : Option (Result Token LexError) → List Item → List Item
items_left None items = []
items_left (Some item) items = item_of item ∷ items
