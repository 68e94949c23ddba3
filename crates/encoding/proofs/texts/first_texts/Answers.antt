use Rattle.std.proofs.Common.{◌≡◌, ◌<◌, [], ◌∷◌, ◌++◌, map, sym, ap, ◌∙◌, subst, arith}
use Rattle.std.proofs.lemmas.List.FromFn.{map-range_with_len_more}
use Rattle.std.specs.Prelude.{unwrap_or}
use Rattle.std.specs.List.{range_with_len}
use Rattle.std.specs.FinMap.{get}
use Rattle.customer_data.specs.Words.{data_words}
use Rattle.tables.specs.Database.{database}
use Rattle.tables.specs.Keys.{IsCustomerKey}
use Rattle.tables.specs.Records.{size, customer_at}
use Rattle.tables.specs.declared.keys.CustomerKey.{CustomerKey}
use Rattle.tables.specs.declared.records.Table.TheVariants as table
use Rattle.tables.proofs.Numbers.{customer_back}
use Rattle.cells.specs.First.{populated_word}
use Rattle.encoding.specs.Newest.{text_version_of}
use Rattle.encoding.proofs.texts.first_texts.Goals as goal

pub text_words-requires-clause-key : goal.text_words-requires-clause-key
text_words-requires-clause-key c =
    let s = (database c.args.tables.now).scale in
    let below : c.loop-place.place < size s table.CustomerData = omega (arith, c.loop-place.auto.place-end, c.loop-place-test.true, c.size-count.ensures.value) in
    subst (IsCustomerKey s) (sym c.customer_at-key.ensures) (customer_back s c.loop-place.place below).0

pub loop-place-preserved : goal.loop-place-preserved
loop-place-preserved c =
    let t = database c.args.tables.now in
    let n = c.loop-place.place in
    let told : c.text_words.result ≡ data_words (unwrap_or (get t.texts (customer_at t.scale n)) []) =
    c.text_words.ensures ∙ ap (λ (k : CustomerKey). data_words (unwrap_or (get t.texts k) [])) c.customer_at-key.ensures in
    record {
      listed = c.in_ok-push.ensures.ok
          ∙ (λ i. c.loop-place.invariant.listed i ++ (record { word = populated_word; payload = told i }) ∷ [])
          ∙ sym (map-range_with_len_more (text_version_of t) 0 n n (omega arith));
    }

pub returns : goal.returns
returns c =
    let t = database c.args.tables.now in
    let all : c.loop-place.place ≡ size t.scale table.CustomerData = omega (arith, c.loop-place.auto.place-end, c.loop-place-test.false, c.size-count.ensures.value) in
    c.loop-place.invariant.listed ∙ ap (λ n. map (text_version_of t) (range_with_len 0 n)) all
