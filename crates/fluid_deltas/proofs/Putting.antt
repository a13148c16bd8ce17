-- What a keeper keeps after some messages were put, and after one more.
use Rattle.std.proofs.Common.{◌≡◌, ℕ, zero, suc, ◌+◌, ◌<◌, ◌≤◌, List, [], ◌∷◌, ◌++◌, length, get_or, take, map, Option, Some, None, refl, sym, ap, subst, ◌∙◌, append_assoc, append-nil, arith, length-append}
use Rattle.std.specs.Option.{option_map}
use Rattle.std.specs.List.{All}
use Rattle.std.proofs.lemmas.List.{take_more, take_all, map-append}
use Rattle.std.proofs.lemmas.List.Elements.{All-append, All-from_get_or}
use Rattle.fluid_types.specs.declared.messages.Message.{Message}
use Rattle.fluid_types.specs.Printed.{message_printed}
use Rattle.fluid_log.specs.Keeping.{Content, Keeping, IsText}
use Rattle.fluid_log.specs.Calls.{KeepsSame}
use Rattle.fluid_log.proofs.Sameness.{same_twice}
use Rattle.fluid_deltas.specs.Flushes.{put_behind, with_deltas, Puts}

abbrev with_texts : Content → List (List ℕ) → Content
with_texts c texts = record c { deltas = texts }

put_nothing : (content : Option Content) → content ≡ option_map (put_behind []) content
put_nothing None = refl
put_nothing (Some c) = ap (λ texts. Some (with_texts c texts)) (sym (append-nil c.deltas))

put_twice : (xs ys : List Message) (content : Option Content) → option_map (put_behind ys) (option_map (put_behind xs) content) ≡ option_map (put_behind (xs ++ ys)) content
put_twice xs ys None = refl
put_twice xs ys (Some c) =
    ap (λ texts. Some (with_texts c texts)) (append_assoc c.deltas (map message_printed xs) (map message_printed ys) ∙ ap (λ texts. c.deltas ++ texts) (sym (map-append message_printed xs ys)))

-- messages were put, and others behind them
both_kept : (old mid new : Keeping) (xs ys : List Message) → KeepsSame (with_deltas xs old) mid → KeepsSame (with_deltas ys mid) new → KeepsSame (with_deltas (xs ++ ys) old) new
both_kept old mid new xs ys first second = record {
  content = second.content ∙ ap (option_map (put_behind ys)) first.content ∙ put_twice xs ys old.content;
  records = second.records ∙ first.records;
  deltas = omega (arith, first.deltas, second.deltas, length-append xs ys);
  checkpoints = second.checkpoints ∙ first.checkpoints;
}

puts_same : (old new : Keeping) (xs ys : List Message) → xs ≡ ys → Puts xs old new → Puts ys old new
puts_same old new xs ys same puts = subst (λ messages. Puts messages old new) same puts

-- nothing was put yet
pub puts_nothing : (k : Keeping) → Puts [] k k
puts_nothing k = record {
  kept = record { content = put_nothing k.content; records = refl; deltas = omega arith; checkpoints = refl };
  texts = λ k d lt. absurd (omega arith);
}

-- the keeper was left as it was
pub puts_on : (old mid new : Keeping) (xs : List Message) → Puts xs old mid → KeepsSame mid new → Puts xs old new
puts_on old mid new xs first second = record {
  kept = same_twice (with_deltas xs old) mid new first.kept second;
  texts = first.texts;
}

-- the messages before this place were put
pub record HasPut (old now : Keeping) (messages : List Message) (place : ℕ) : Type 0 where
  pub later : old.faults ≤ now.faults
  pub reads : now.reads ≡ old.reads
  pub puts : Puts (take place messages) old now

pub puts_more : (old mid new : Keeping) (ms : List Message) (place : ℕ) (m : Message) → place < length ms → m ≡ get_or ms place m → Puts (take place ms) old mid → Puts (m ∷ []) mid new → Puts (take (place + 1) ms) old new
puts_more old mid new ms place m lt is first second =
    let more : take place ms ++ m ∷ [] ≡ take (place + 1) ms = ap (λ x. take place ms ++ x ∷ []) is ∙ sym (take_more ms place m lt) in
    puts_same old new _ _ more (record {
      kept = both_kept old mid new (take place ms) (m ∷ []) first.kept second.kept;
      texts = All-append (λ x. IsText (message_printed x)) (take place ms) (m ∷ []) first.texts second.texts;
    })

pub puts_all : (old new : Keeping) (ms : List Message) (place : ℕ) → length ms ≤ place → Puts (take place ms) old new → Puts ms old new
puts_all old new ms place le puts = puts_same old new _ _ (take_all place ms le) puts

-- the text of one message
pub one_text : (m : Message) → IsText (message_printed m) → All (λ x. IsText (message_printed x)) (m ∷ [])
one_text m is = All-from_get_or (λ x. IsText (message_printed x)) (m ∷ []) m first
  where
    first : (i : ℕ) → i < length (m ∷ []) → IsText (message_printed (get_or (m ∷ []) i m))
    first zero lt = is
    first (suc i) lt = absurd (omega arith)
