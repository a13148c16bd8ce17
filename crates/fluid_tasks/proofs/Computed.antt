-- The worked examples, computed. What a leave says is known by the law that a printed value is read back, and behind it the statuses
-- go on from those before.
use Rattle.std.proofs.Common.{◌≡◌, ℕ, ◌==◌, ◌≤◌, Bool, true, false, cond, ◌&&◌, List, [], ◌∷◌, ◌++◌, map, Option, Some, None, option_map, Ok, codes, refl, ap, ap₂, ◌∙◌, arith, rules}
use Rattle.std.specs.Prelude.{filter, flat_map}
use Rattle.std.specs.List.{AllByRecursion, filter_map, cons_option}
use Rattle.std.specs.Fmt.{digits}
use Rattle.json.specs.Print.{escape_byte}
use Rattle.fluid_json.specs.Printed.{printed}
use Rattle.fluid_json.specs.Spelled.{answer}
use Rattle.fluid_json.specs.Tree.{Tree, null, text, IsCanonical, depth}
use Rattle.fluid_json.proofs.ReadBack.{answers_itself}
use Rattle.fluid_types.specs.Contents.{body}
use Rattle.fluid_types.specs.Names.{is_name}
use Rattle.fluid_types.specs.Quorum.{left_by}
use Rattle.fluid_rules.specs.Past.{put_id}
use Rattle.fluid_types.specs.declared.messages.Message.{Message}
use Rattle.fluid_tasks.specs.declared.acts.Act.TheVariants.{Acquire, Complete}
use Rattle.fluid_tasks.specs.declared.tasks.Item.{Item}
use Rattle.fluid_tasks.specs.Acts.{act_in, Said, Does, Leaves, said}
use Rattle.fluid_tasks.specs.Past.{Past, first, is_number, numbers, items, added, is_of, Status, Free, Held, Gone, is_free_since, is_held_by, holder_in, is_there, status, free, holder_of, live, value, Volunteering, volunteerings, standing_since, clients, standing, candidates, holder}
use Rattle.fluid_tasks.specs.Printed.{queue_in, task_in, with_name, shown_queue, shown_task, shown, all_of, queues, tasks, held_in, held, print}
use Rattle.fluid_tasks.specs.Examples.{TwoItems, InTurn, CountForNothing, TextIsSpelled, TwoVolunteers, Standing, Both, complete, acquire, op, leave, a, b, q, t, two_items, given_back, holder_left, one_is_done, three_items, both_held, done_by_another, add}
use Rattle.fluid_tasks.proofs.Facts.{status-step, items-step}
use Rattle.fluid_tasks.proofs.Freeing.{added-kept, is_of-kept}
use Rattle.fluid_tasks.proofs.Candidates.{since-step, volunteerings-step}

-- ---- what is read

spells : (s : List ℕ) (t : Tree) → s ≡ printed t → IsCanonical t → depth t ≤ 100 → answer s ≡ Ok t
spells s t is canonical shallow = ap answer is ∙ answers_itself 101 t canonical (omega (arith, shallow)) (omega (arith, shallow))

-- the leave of a client says that it leaves
says_left : (c : List ℕ) (n : ℕ) → said (leave c n) ≡ Leaves c
unfolding said left_by
says_left c n = rw (spells (printed (text c)) (text c) refl tt (omega arith)) refl

complete_text : answer (codes "{\"item\":7,\"name\":\"q\",\"op\":\"complete\",\"type\":\"queue\"}") ≡ Ok (complete (codes "q") 7)
unfolding escape_byte digits
complete_text = spells _ (complete (codes "q") 7) refl (search rules) (omega arith)

-- ---- the free items by the statuses of all items

abbrev seen : List (ℕ × Status) → ℕ → List ℕ
seen its since = map (λ p. p.0) (filter (λ p. is_free_since since p.1) its)

abbrev IsSo : Past → List ℕ → ℕ × Status → Type 0
IsSo past queue p = (is_of past queue p.0 ≡ true) × (status past p.0 ≡ p.1)

picked : (past : Past) (queue : List ℕ) (since : ℕ) (its : List (ℕ × Status)) → AllByRecursion (IsSo past queue) its
    → filter (λ i. is_of past queue i && is_free_since since (status past i)) (map (λ p. p.0) its) ≡ seen its since
picked past queue since [] all = refl
picked past queue since (p ∷ its) all =
    ap₂ (λ b l. cond b (p.0 ∷ l) l) (ap₂ (λ own st. own && is_free_since since st) all.0.0 all.0.1) (picked past queue since its all.1) ∙ here (is_free_since since p.1)
  where
    here : (b : Bool) → cond b (p.0 ∷ seen its since) (seen its since) ≡ map (λ p. p.0) (cond b (p ∷ filter (λ p. is_free_since since p.1) its) (filter (λ p. is_free_since since p.1) its))
    here true = refl
    here false = refl

free_by_statuses : (past : Past) (queue : List ℕ) (its : List (ℕ × Status)) → items past ≡ map (λ p. p.0) its → AllByRecursion (IsSo past queue) its → free past queue ≡ flat_map (seen its) (numbers past)
unfolding free
free_by_statuses past queue its are all = of (numbers past)
  where
    of : (ns : List ℕ) → flat_map (λ since. filter (λ i. is_of past queue i && is_free_since since (status past i)) (items past)) ns ≡ flat_map (seen its) ns
    of [] = refl
    of (n ∷ ns) = ap₂ (λ xs ys. xs ++ ys) (ap (filter (λ i. is_of past queue i && is_free_since n (status past i))) are ∙ picked past queue n its all) (of ns)

-- ---- what a leave, an acquire and a complete make of an item

left_status : (c : List ℕ) (n : ℕ) (past : Past) (i : ℕ) (st : Status) → status past i ≡ st → status (leave c n ∷ past) i ≡ cond (is_held_by c st) (Free n) st
left_status c n past i st is = status-step (leave c n) past (Leaves c) (says_left c n) i ∙ ap (λ st. cond (is_held_by c st) (Free n) st) is

given_status : (c queue : List ℕ) (n : ℕ) (past : Past) → said (op c n (acquire queue)) ≡ Does c (Acquire queue) → (i : ℕ) (fs : List ℕ) (st : Status) → free past queue ≡ fs → status past i ≡ st
    → status (op c n (acquire queue) ∷ past) i ≡ cond (is_number (first fs) i) (Held c) st
given_status c queue n past says i fs st fs_are is =
    status-step (op c n (acquire queue)) past (Does c (Acquire queue)) says i ∙ ap₂ (λ fs st. cond (is_number (first fs) i) (Held c) st) fs_are is

done_status : (c queue : List ℕ) (own n : ℕ) (past : Past) → said (op c n (complete queue own)) ≡ Does c (Complete queue own) → (i : ℕ) (st : Status) → is_of past queue i ≡ true → status past i ≡ st
    → status (op c n (complete queue own) ∷ past) i ≡ cond ((own == i) && is_held_by c st) Gone st
done_status c queue own n past says i st of_queue is =
    status-step (op c n (complete queue own)) past (Does c (Complete queue own)) says i
    ∙ ap₂ (λ o st. cond ((own == i) && (o && is_held_by c st)) Gone st) of_queue is

-- ---- a queue

says_acquire : said (op b 9 (acquire q)) ≡ Does b (Acquire q)
unfolding body is_name left_by act_in said
says_acquire = refl

says_complete : said (op b 10 (complete q 3)) ≡ Does b (Complete q 3)
unfolding body is_name left_by act_in said
says_complete = refl

back_3 : status given_back 3 ≡ Free 7
unfolding body is_name left_by act_in said numbers items added status
back_3 = refl

back_4 : status given_back 4 ≡ Held a
unfolding body is_name left_by act_in said numbers items added status
back_4 = refl

back_of : (is_of given_back q 3 ≡ true) × (is_of given_back q 4 ≡ true)
unfolding body is_name left_by act_in said items added
back_of = (refl, refl)

back_items : items given_back ≡ 3 ∷ 4 ∷ []
unfolding body is_name left_by act_in said items
back_items = refl

back_queue : added given_back 4 ≡ Some (record { queue = q; value = text (codes "y") })
unfolding body is_name left_by act_in said added
back_queue = refl

left_of_3 : is_of holder_left q 3 ≡ true
left_of_3 = is_of-kept (leave a 8) given_back (Leaves a) (says_left a 8) refl q 3 ∙ back_of.0

left_of_4 : is_of holder_left q 4 ≡ true
left_of_4 = is_of-kept (leave a 8) given_back (Leaves a) (says_left a 8) refl q 4 ∙ back_of.1

left_3 : status holder_left 3 ≡ Free 7
left_3 = left_status a 8 given_back 3 (Free 7) back_3

left_4 : status holder_left 4 ≡ Free 8
left_4 = left_status a 8 given_back 4 (Held a) back_4

left_items : items holder_left ≡ 3 ∷ 4 ∷ []
left_items = items-step (leave a 8) given_back (Leaves a) (says_left a 8) ∙ ap (λ l. l ++ []) back_items

left_free : free holder_left q ≡ 3 ∷ 4 ∷ []
unfolding numbers
left_free = free_by_statuses holder_left q ((3, Free 7) ∷ (4, Free 8) ∷ []) left_items ((left_of_3, left_3), ((left_of_4, left_4), tt))

abbrev acquired : Past
acquired = op b 9 (acquire q) ∷ holder_left

done_3 : status one_is_done 3 ≡ Gone
done_3 =
    done_status b q 3 10 acquired says_complete 3 (Held b) (is_of-kept (op b 9 (acquire q)) holder_left (Does b (Acquire q)) says_acquire refl q 3 ∙ left_of_3)
    (given_status b q 9 holder_left says_acquire 3 (3 ∷ 4 ∷ []) (Free 7) left_free left_3)

done_4 : status one_is_done 4 ≡ Free 8
done_4 =
    done_status b q 3 10 acquired says_complete 4 (Free 8) (is_of-kept (op b 9 (acquire q)) holder_left (Does b (Acquire q)) says_acquire refl q 4 ∙ left_of_4)
    (given_status b q 9 holder_left says_acquire 4 (3 ∷ 4 ∷ []) (Free 8) left_free left_4)

done_of_3 : is_of one_is_done q 3 ≡ true
done_of_3 =
    is_of-kept (op b 10 (complete q 3)) acquired (Does b (Complete q 3)) says_complete refl q 3
    ∙ is_of-kept (op b 9 (acquire q)) holder_left (Does b (Acquire q)) says_acquire refl q 3 ∙ left_of_3

done_of_4 : is_of one_is_done q 4 ≡ true
done_of_4 =
    is_of-kept (op b 10 (complete q 3)) acquired (Does b (Complete q 3)) says_complete refl q 4
    ∙ is_of-kept (op b 9 (acquire q)) holder_left (Does b (Acquire q)) says_acquire refl q 4 ∙ left_of_4

done_items : items one_is_done ≡ 3 ∷ 4 ∷ []
done_items =
    items-step (op b 10 (complete q 3)) acquired (Does b (Complete q 3)) says_complete
    ∙ ap (λ l. l ++ []) (items-step (op b 9 (acquire q)) holder_left (Does b (Acquire q)) says_acquire ∙ ap (λ l. l ++ []) left_items)

done_free : free one_is_done q ≡ 4 ∷ []
unfolding numbers
done_free = free_by_statuses one_is_done q ((3, Gone) ∷ (4, Free 8) ∷ []) done_items ((done_of_3, done_3), ((done_of_4, done_4), tt))

done_added : added one_is_done 4 ≡ Some (record { queue = q; value = text (codes "y") })
done_added =
    added-kept (op b 10 (complete q 3)) acquired (Does b (Complete q 3)) says_complete refl 4
    ∙ added-kept (op b 9 (acquire q)) holder_left (Does b (Acquire q)) says_acquire refl 4
    ∙ added-kept (leave a 8) given_back (Leaves a) (says_left a 8) refl 4 ∙ back_queue

held_one : (past : Past) (queue : List ℕ) (i : ℕ) (st : Status) → is_of past queue i ≡ true → status past i ≡ st → held_in past queue i ≡ option_map (λ c. (i, c)) (holder_in st)
unfolding holder_of
held_one past queue i st own is = ap₂ (λ b st. cond b (option_map (λ c. (i, c)) (holder_in st)) None) own is

done_held : held one_is_done q ≡ []
unfolding held
done_held =
    ap (filter_map (held_in one_is_done q)) done_items
    ∙ ap₂ (λ x y. cons_option x (cons_option y [])) (held_one one_is_done q 3 Gone done_of_3 done_3) (held_one one_is_done q 4 (Free 8) done_of_4 done_4)

queues-step : (m : Message) (past : Past) (d : Said) → said m ≡ d → queues (m ∷ past) ≡ with_name (queue_in d) (queues past)
unfolding queues
queues-step m past d is = rw is refl

tasks-step : (m : Message) (past : Past) (d : Said) → said m ≡ d → tasks (m ∷ past) ≡ with_name (task_in d) (tasks past)
unfolding tasks
tasks-step m past d is = rw is refl

back_names : (queues given_back ≡ q ∷ []) × (tasks given_back ≡ [])
unfolding body is_name left_by act_in said queues tasks put_id
back_names = (refl, refl)

done_queues : queues one_is_done ≡ q ∷ []
done_queues =
    queues-step (op b 10 (complete q 3)) acquired (Does b (Complete q 3)) says_complete
    ∙ queues-step (op b 9 (acquire q)) holder_left (Does b (Acquire q)) says_acquire
    ∙ queues-step (leave a 8) given_back (Leaves a) (says_left a 8) ∙ back_names.0

done_tasks : tasks one_is_done ≡ []
done_tasks =
    tasks-step (op b 10 (complete q 3)) acquired (Does b (Complete q 3)) says_complete
    ∙ tasks-step (op b 9 (acquire q)) holder_left (Does b (Acquire q)) says_acquire
    ∙ tasks-step (leave a 8) given_back (Leaves a) (says_left a 8) ∙ back_names.1

print_queue : (past : Past) (queue : List ℕ) (fs : List ℕ) (hs : List (ℕ × List ℕ)) → queues past ≡ queue ∷ [] → tasks past ≡ [] → free past queue ≡ fs → held past queue ≡ hs
    → print past ≡ printed (all_of (cons_option (option_map (λ tree. (queue, tree)) (shown_queue fs hs)) []) [])
unfolding print
print_queue past queue fs hs queues_are tasks_are free_is held_is =
    ap₂ (λ qs ts. printed (all_of (shown (λ n. shown_queue (free past n) (held past n)) qs) (shown (λ task. shown_task (candidates past task)) ts))) queues_are tasks_are
    ∙ ap₂ (λ fs hs. printed (all_of (cons_option (option_map (λ tree. (queue, tree)) (shown_queue fs hs)) []) [])) free_is held_is

done_print : print one_is_done ≡ codes "{\"queues\":{\"q\":{\"free\":[4],\"held\":[]}},\"tasks\":{}}"
unfolding escape_byte digits
done_print = print_queue one_is_done q (4 ∷ []) [] done_queues done_tasks done_free done_held

held_both : (status two_items 3 ≡ Held b) × (status two_items 4 ≡ Held a)
unfolding body is_name left_by act_in said numbers items added status
held_both = (refl, refl)

two_of : (is_of two_items q 3 ≡ true) × (is_of two_items q 4 ≡ true)
unfolding body is_name left_by act_in said items added
two_of = (refl, refl)

two_are : items two_items ≡ 3 ∷ 4 ∷ []
unfolding body is_name left_by act_in said items
two_are = refl

two_free : free two_items q ≡ []
unfolding numbers
two_free = free_by_statuses two_items q ((3, Held b) ∷ (4, Held a) ∷ []) two_are ((two_of.0, held_both.0), ((two_of.1, held_both.1), tt))

back_free : free given_back q ≡ 3 ∷ []
unfolding numbers
back_free = free_by_statuses given_back q ((3, Free 7) ∷ (4, Held a) ∷ []) back_items ((back_of.0, back_3), ((back_of.1, back_4), tt))

holds : (past : Past) (i : ℕ) (st : Status) → status past i ≡ st → holder_of past i ≡ holder_in st
unfolding holder_of
holds past i st is = ap holder_in is

valued : (past : Past) (i : ℕ) (st : Status) (o : Option Item) → status past i ≡ st → added past i ≡ o → value past i ≡ option_map (λ (it : Item). it.value) (cond (is_there st) o None)
unfolding value live
valued past i st o is own = ap₂ (λ st (o : Option Item). option_map (λ (it : Item). it.value) (cond (is_there st) o None)) is own

pub two_items_so : TwoItems
two_items_so = record {
  first_held = holds two_items 3 (Held b) held_both.0;
  second_held = holds two_items 4 (Held a) held_both.1;
  none_free = two_free;
  released = back_free;
  left = left_free;
  gone = done_3;
  gone_value = valued one_is_done 3 Gone _ done_3 refl;
  other_value = valued one_is_done 4 (Free 8) _ done_4 done_added;
  printed_so = done_print;
}

-- ---- items in turn

three_statuses : (status three_items 1 ≡ Free 6) × ((status three_items 2 ≡ Held b) × (status three_items 3 ≡ Free 3))
unfolding body is_name left_by act_in said numbers items added status
three_statuses = (refl, (refl, refl))

three_of : (is_of three_items q 1 ≡ true) × ((is_of three_items q 2 ≡ true) × (is_of three_items q 3 ≡ true))
unfolding body is_name left_by act_in said items added
three_of = (refl, (refl, refl))

three_are : items three_items ≡ 1 ∷ 2 ∷ 3 ∷ []
unfolding body is_name left_by act_in said items
three_are = refl

three_free : free three_items q ≡ 3 ∷ 1 ∷ []
unfolding numbers
three_free =
    free_by_statuses three_items q ((1, Free 6) ∷ (2, Held b) ∷ (3, Free 3) ∷ []) three_are
    ((three_of.0, three_statuses.0), ((three_of.1.0, three_statuses.1.0), ((three_of.1.1, three_statuses.1.1), tt)))

held_statuses : (status both_held 1 ≡ Held b) × (status both_held 2 ≡ Held b)
unfolding body is_name left_by act_in said numbers items added status
held_statuses = (refl, refl)

held_of : (is_of both_held q 1 ≡ true) × (is_of both_held q 2 ≡ true)
unfolding body is_name left_by act_in said items added
held_of = (refl, refl)

held_are : items both_held ≡ 1 ∷ 2 ∷ []
unfolding body is_name left_by act_in said items
held_are = refl

left_in_order : free (leave b 7 ∷ both_held) q ≡ 1 ∷ 2 ∷ []
unfolding numbers
left_in_order =
    free_by_statuses (leave b 7 ∷ both_held) q ((1, Free 7) ∷ (2, Free 7) ∷ []) (items-step (leave b 7) both_held (Leaves b) (says_left b 7) ∙ ap (λ l. l ++ []) held_are) (
      (is_of-kept (leave b 7) both_held (Leaves b) (says_left b 7) refl q 1 ∙ held_of.0, left_status b 7 both_held 1 (Held b) held_statuses.0),
      ((is_of-kept (leave b 7) both_held (Leaves b) (says_left b 7) refl q 2 ∙ held_of.1, left_status b 7 both_held 2 (Held b) held_statuses.1), tt),
    )

pub in_turn : InTurn
in_turn = record { behind_the_older = three_free; left_in_order = left_in_order }

-- ---- what counts for nothing, and a text

held_alone : status (op a 2 (acquire q) ∷ op a 1 (add q null) ∷ []) 1 ≡ Held a
unfolding body is_name left_by act_in said numbers items added status
held_alone = refl

pub count_for_nothing : CountForNothing
unfolding body is_name left_by act_in said numbers items added status free
count_for_nothing = record {
  by_another = refl;
  of_another_queue = refl;
  done_in_another_queue = refl;
  done_while_free = refl;
  left_by_another = left_status b 3 (op a 2 (acquire q) ∷ op a 1 (add q null) ∷ []) 1 (Held a) held_alone;
  no_item = refl;
  with_address = refl;
  without_value = refl;
  no_name = refl;
  no_op = refl;
}

pub text_is_spelled : TextIsSpelled
unfolding body is_name left_by act_in said
text_is_spelled = rw complete_text refl

-- ---- a task

done_volunteers : volunteerings done_by_another t ≡ record { number = 1; client = a } ∷ record { number = 2; client = b } ∷ []
unfolding body is_name left_by act_in said volunteerings
done_volunteers = refl

stands_still : standing_since done_by_another t b ≡ Some 2
unfolding body is_name left_by act_in said volunteerings standing_since
stands_still = refl

next_holds : holder (leave a 4 ∷ done_by_another) t ≡ Some b
unfolding standing candidates holder
next_holds =
    ap (λ vs. first (clients (filter (λ v. is_number (standing_since (leave a 4 ∷ done_by_another) t v.client) v.number) vs)))
    (volunteerings-step (leave a 4) done_by_another (Leaves a) (says_left a 4) t ∙ ap (λ vs. vs ++ []) done_volunteers)
    ∙ ap₂ (λ x y. first (clients (cond (is_number x 1) (one ∷ cond (is_number y 2) (two ∷ []) []) (cond (is_number y 2) (two ∷ []) []))))
    (since-step (leave a 4) done_by_another (Leaves a) (says_left a 4) t a)
    (since-step (leave a 4) done_by_another (Leaves a) (says_left a 4) t b ∙ stands_still)
  where
    one : Volunteering
    one = record { number = 1; client = a }

    two : Volunteering
    two = record { number = 2; client = b }

pub two_volunteers_so : TwoVolunteers
unfolding body is_name left_by act_in said numbers items added status free holder_of volunteerings standing_since standing candidates holder queues tasks held print put_id escape_byte digits
two_volunteers_so = record { first_holds = refl; holds_still = refl; next_holds = next_holds; printed_so = refl }

pub standing_so : Standing
unfolding body is_name left_by act_in said volunteerings standing_since standing candidates
standing_so = record { once = refl; last = refl; nobody = refl; anew = refl }

-- ---- both

pub both_so : Both
unfolding body is_name left_by act_in said numbers items added status free holder_of volunteerings standing_since standing candidates holder queues tasks held print put_id escape_byte digits
both_so = record { printed_so = refl }
