-- Small orders worked out: which items are free, who holds what, and the text of it all.
use Rattle.std.specs.Prelude.{◌≡◌, ℕ, pos, List, [], ◌∷◌, codes, Option, Some, None}
use Rattle.fluid_json.specs.Tree.{Tree, null, whole, text, object, members}
use Rattle.fluid_json.specs.Printed.{printed}
use Rattle.fluid_types.specs.declared.messages.Kind.{Kind}
use Rattle.fluid_types.specs.declared.messages.Kind.TheVariants.{Op, Noop, Join, Leave}
use Rattle.fluid_types.specs.declared.messages.Message.{Message}
use Rattle.fluid_tasks.specs.declared.acts.Act.TheVariants.{Complete}
use Rattle.fluid_tasks.specs.Acts.{Does, Nothing, said}
use Rattle.fluid_tasks.specs.Past.{Past, past_of, Free, Held, Gone, status, free, holder_of, value, candidates, holder}
use Rattle.fluid_tasks.specs.Printed.{print}

abbrev pub message : Kind → Option (List ℕ) → Option (List ℕ) → ℕ → Tree → Message
message kind client system number contents = record {
  client = client;
  client_number = pos 1;
  reference = pos 0;
  number = number;
  minimum = 0;
  kind = kind;
  contents = contents;
  system = system;
  metadata = None;
  moment = 5;
}

-- the message of this number: an op of a client with this body, the leave of a client, or a join
abbrev pub op : List ℕ → ℕ → Tree → Message
op client number body = message Op (Some client) None number body

abbrev pub leave : List ℕ → ℕ → Message
leave client number = message Leave None (Some (printed (text client))) number null

abbrev pub join : ℕ → Message
join number = message Join None None number null

-- {"name":A,"op":OP,"type":"queue"}, with a value or an item
abbrev pub add : List ℕ → Tree → Tree
add queue value =
    object
    (members
    ((codes "name", text queue) ∷ (codes "op", text (codes "add")) ∷ (codes "type", text (codes "queue")) ∷ (codes "value", value) ∷ []))

abbrev pub acquire : List ℕ → Tree
acquire queue = object (members ((codes "name", text queue) ∷ (codes "op", text (codes "acquire")) ∷ (codes "type", text (codes "queue")) ∷ []))

abbrev pub of_item : (verb queue : List ℕ) → ℕ → Tree
of_item verb queue item =
    object
    (members
    ((codes "item", whole (pos item)) ∷ (codes "name", text queue) ∷ (codes "op", text verb) ∷ (codes "type", text (codes "queue")) ∷ []))

abbrev pub release : List ℕ → ℕ → Tree
release queue item = of_item (codes "release") queue item

abbrev pub complete : List ℕ → ℕ → Tree
complete queue item = of_item (codes "complete") queue item

-- {"name":A,"op":OP,"type":"task"}
abbrev pub to_task : (verb task : List ℕ) → Tree
to_task verb task = object (members ((codes "name", text task) ∷ (codes "op", text verb) ∷ (codes "type", text (codes "task")) ∷ []))

abbrev pub volunteer : List ℕ → Tree
volunteer task = to_task (codes "volunteer") task

abbrev pub abandon : List ℕ → Tree
abandon task = to_task (codes "abandon") task

abbrev pub finish : List ℕ → Tree
finish task = to_task (codes "complete") task

abbrev pub a : List ℕ
a = codes "c0"

abbrev pub b : List ℕ
b = codes "c1"

abbrev pub q : List ℕ
q = codes "q"

abbrev pub r : List ℕ
r = codes "r"

abbrev pub t : List ℕ
t = codes "t"

-- ---- a queue

-- two items are added and both are held; the first is released, and the second's holder leaves; the first is acquired again and is done
abbrev pub two_items : Past
two_items = past_of
    (join 1 ∷ join 2 ∷ op a 3 (add q (text (codes "x"))) ∷ op b 4 (add q (text (codes "y"))) ∷ op b 5 (acquire q) ∷ op a 6 (acquire q) ∷ [])

abbrev pub given_back : Past
given_back = op b 7 (release q 3) ∷ two_items

abbrev pub holder_left : Past
holder_left = leave a 8 ∷ given_back

abbrev pub one_is_done : Past
one_is_done = op b 10 (complete q 3) ∷ op b 9 (acquire q) ∷ holder_left

pub record TwoItems : Type 0 where
  pub first_held : holder_of two_items 3 ≡ Some b
  pub second_held : holder_of two_items 4 ≡ Some a
  pub none_free : free two_items q ≡ []
  pub released : free given_back q ≡ 3 ∷ []
  pub left : free holder_left q ≡ 3 ∷ 4 ∷ []
  pub gone : status one_is_done 3 ≡ Gone
  pub gone_value : value one_is_done 3 ≡ None
  pub other_value : value one_is_done 4 ≡ Some (text (codes "y"))
  pub printed_so : print one_is_done ≡ codes "{\"queues\":{\"q\":{\"free\":[4],\"held\":[]}},\"tasks\":{}}"

-- an item that is released later is given later, whatever its number; those that a leave makes free come in the order of their numbers
abbrev pub three_items : Past
three_items = past_of
    (op a 1 (add q null) ∷ op a 2 (add q null) ∷ op a 3 (add q null) ∷ op b 4 (acquire q) ∷ op b 5 (acquire q) ∷ op b 6 (release q 1) ∷ [])

-- the second item is acquired before the first one is again
abbrev pub both_held : Past
both_held = past_of
    (op a 1 (add q null) ∷ op a 2 (add q null) ∷ op b 3 (acquire q) ∷ op b 4 (release q 1) ∷ op b 5 (acquire q) ∷ op b 6 (acquire q) ∷ [])

pub record InTurn : Type 0 where
  pub behind_the_older : free three_items q ≡ 3 ∷ 1 ∷ []
  pub left_in_order : free (leave b 7 ∷ both_held) q ≡ 1 ∷ 2 ∷ []

-- what isn't the holder's, names another queue than the item's, names no item, or has another form, counts for nothing
pub record CountForNothing : Type 0 where
  pub by_another : status (op b 3 (release q 1) ∷ op a 2 (acquire q) ∷ op a 1 (add q null) ∷ []) 1 ≡ Held a
  pub of_another_queue : status (op a 3 (release r 1) ∷ op a 2 (acquire q) ∷ op a 1 (add q null) ∷ []) 1 ≡ Held a
  pub done_in_another_queue : status (op a 3 (complete r 1) ∷ op a 2 (acquire q) ∷ op a 1 (add q null) ∷ []) 1 ≡ Held a
  pub done_while_free : status (op a 2 (complete q 1) ∷ op a 1 (add q null) ∷ []) 1 ≡ Free 1
  pub left_by_another : status (leave b 3 ∷ op a 2 (acquire q) ∷ op a 1 (add q null) ∷ []) 1 ≡ Held a
  pub no_item : free (op a 2 (release q 7) ∷ op a 1 (add q null) ∷ []) q ≡ 1 ∷ []
  pub with_address : said (op a 1 (object (members ((codes "address", text q) ∷ (codes "name", text t) ∷ (codes "op", text (codes "volunteer")) ∷ (codes "type", text (codes "task")) ∷ []))))
      ≡ Nothing
  pub without_value : said (op a 1 (to_task (codes "add") q)) ≡ Nothing
  pub no_name : said (op a 1 (volunteer (codes "t.1"))) ≡ Nothing
  pub no_op : said (message Noop (Some a) None 1 (volunteer t)) ≡ Nothing

-- contents that are a text of JSON stand for what they spell
abbrev pub TextIsSpelled : Type 0
TextIsSpelled = said (op a 1 (text (codes "{\"item\":7,\"name\":\"q\",\"op\":\"complete\",\"type\":\"queue\"}"))) ≡ Does a (Complete q 7)

-- ---- a task

abbrev pub two_volunteers : Past
two_volunteers = op b 2 (volunteer t) ∷ op a 1 (volunteer t) ∷ []

abbrev pub done_by_another : Past
done_by_another = op b 3 (finish t) ∷ two_volunteers

pub record TwoVolunteers : Type 0 where
  pub first_holds : holder two_volunteers t ≡ Some a
  pub holds_still : holder done_by_another t ≡ Some a
  pub next_holds : holder (leave a 4 ∷ done_by_another) t ≡ Some b
  pub printed_so : print two_volunteers ≡ codes "{\"queues\":{},\"tasks\":{\"t\":[\"c0\",\"c1\"]}}"

-- a second volunteering changes nothing; who abandons and volunteers again stands last; behind a complete by the holder nobody stands
pub record Standing : Type 0 where
  pub once : candidates (op a 3 (volunteer t) ∷ two_volunteers) t ≡ a ∷ b ∷ []
  pub last : candidates (op a 4 (volunteer t) ∷ op a 3 (abandon t) ∷ two_volunteers) t ≡ b ∷ a ∷ []
  pub nobody : candidates (op a 3 (finish t) ∷ two_volunteers) t ≡ []
  pub anew : candidates (op b 4 (volunteer t) ∷ op a 3 (finish t) ∷ two_volunteers) t ≡ b ∷ []

-- ---- both

pub record Both : Type 0 where
  pub printed_so : print (op a 3 (acquire q) ∷ op a 2 (volunteer t) ∷ op a 1 (add q null) ∷ [])
      ≡ codes "{\"queues\":{\"q\":{\"free\":[],\"held\":[{\"by\":\"c0\",\"item\":1}]}},\"tasks\":{\"t\":[\"c0\"]}}"
