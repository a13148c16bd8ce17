-- The one text that is printed for a value: compact, with the members in their order.
use Rattle.std.specs.Prelude.{ℕ, List, [], ◌++◌, true, false, codes}
use Rattle.std.specs.Fmt.{signed_decimal}
use Rattle.json.specs.Print.{quoted}
use Rattle.fluid_json.specs.Tree.{Tree, null, boolean, whole, text, list, object, Trees, no_trees, tree, Members, no_members, member}

-- `quoted` is a string of RFC 8259, section 7: a backslash before a quotation mark and a backslash, \b \f \n \r \t, \u00xx in lower case for the
-- other characters below a blank, and all else as it is.
abbrev mutual
  pub printed : Tree → List ℕ
  printed null = codes "null"
  printed (boolean true) = codes "true"
  printed (boolean false) = codes "false"
  printed (whole n) = signed_decimal n
  printed (text s) = quoted s
  printed (list ts) = codes "[" ++ (printed_items ts ++ codes "]")
  printed (object ms) = codes "{" ++ (printed_members ms ++ codes "}")

  pub printed_items : Trees → List ℕ
  printed_items no_trees = []
  printed_items (tree t ts) = printed t ++ printed_more_items ts

  -- the items behind the first, each behind a comma
  pub printed_more_items : Trees → List ℕ
  printed_more_items no_trees = []
  printed_more_items (tree t ts) = codes "," ++ (printed t ++ printed_more_items ts)

  pub printed_members : Members → List ℕ
  printed_members no_members = []
  printed_members (member k t ms) = quoted k ++ (codes ":" ++ (printed t ++ printed_more_members ms))

  pub printed_more_members : Members → List ℕ
  printed_more_members no_members = []
  printed_more_members (member k t ms) = codes "," ++ (quoted k ++ (codes ":" ++ (printed t ++ printed_more_members ms)))
