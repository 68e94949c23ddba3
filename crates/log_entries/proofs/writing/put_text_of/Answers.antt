use Rattle.std.proofs.Common.{◌≡◌, ℕ, ◌++◌, List, OnOk, Some, sym, ap, ◌∙◌, subst}
use Rattle.std.proofs.lemmas.Option.{same_Some}
use Rattle.tables.specs.Sizes.{Sizes}
use Rattle.tables.specs.Records.{table_at, place_at}
use Rattle.tables.specs.declared.records.Table.{Table}
use Rattle.tables.specs.declared.records.Table.TheVariants as table
use Rattle.log_text.specs.Columns.{has_text}
use Rattle.log_text.specs.Writes.{write_text}
use Rattle.log_text.specs.declared.write.Write.{Write}
use Rattle.log_text.specs.declared.write.Value.TheVariants as value
use Rattle.log_entries.specs.Logged.{text_of_words, value_as, write_at}
use Rattle.log_entries.proofs.Texts.{text_again}
use Rattle.log_entries.proofs.Turns.{wide_is_text}
use Rattle.log_entries.proofs.writing.put_text_of.Goals as goal

-- a text at a place of C_DATA is what its record holds
as_write : (s : Sizes) (n place : ℕ) (words text : List ℕ) → table_at s n ≡ table.CustomerData → place ≡ place_at s n → text ≡ text_of_words words
    → record { table = table.CustomerData; place = place; value = value.Text text } ≡ write_at s (n, Some words)
as_write s n place words text of at same =
    let held = ap value.Text same ∙ ap (λ (t : Table). value_as (has_text t) (Some words)) (sym of) in
    λ i. record { table = sym of i; place = at i; value = held i }

pub returns : goal.returns
returns c =
    let is = c.requires.text in
    let bytes = c.unpack-bytes.ensures.text is.0 is.2 (same_Some _ _ is.1) in
    let text : c.text_of.result.now ≡ text_of_words c.args.words.now = c.text_of.ensures.text is.0 is.2 bytes ∙ sym (text_again c.args.words.now is) in
    subst (λ (w : Write). OnOk c.put_text.result (c.put_text.new.out.items ≡ c.args.out.now.items ++ write_text w))
    (as_write c.args.scale.now c.args.number c.locate-table.result.1 c.args.words.now c.text_of.result.now
    (wide_is_text c.args.scale.now c.args.number c.requires.wide c.requires.below) c.locate-table.ensures.place text)
    c.put_text.ensures
