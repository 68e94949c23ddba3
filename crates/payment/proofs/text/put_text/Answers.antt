use Rattle.std.proofs.Common.{Some, sym, ap, ◌∙◌, subst}
use Rattle.std.specs.FinMap.{get}
use Rattle.customer_data.specs.Text.{put_left}
use Rattle.customer_data.specs.Payments.{payment_text}
use Rattle.customer_data.specs.Words.{data_words}
use Rattle.customer_data.specs.declared.payments.PaymentText.{PaymentText}
use Rattle.tables.specs.Payment.{payer}
use Rattle.tables.specs.Records.{number_of_key}
use Rattle.tables.specs.Rows.{row_at}
use Rattle.tables.specs.declared.keys.CustomerKey.{CustomerKey}
use Rattle.tables.specs.declared.records.RecordKey.TheVariants as key
use Rattle.rows.specs.Laws.{found_row}
use Rattle.readset.specs.Reads.{ReadSetView}
use Rattle.readset.specs.Writes.{WriteSetView, puts}
use Rattle.readset.specs.Explains.{IsCandidate}
use Rattle.payment.proofs.Changed.{text_changed, same_credit}
use Rattle.payment.proofs.text.put_text.Goals as goal

pub returns-clause-tells : goal.returns-clause-tells
returns-clause-tells g c =
    let t0 = g.K.Start.tables in
    let x = c.args.payment.now in
    let id = c.args.customer in
    let after = c.in_ok-after.after in
    record {
      text = Some after;
      writes = c.in_ok-put_wide.ensures.puts
          ∙ ap (λ (k : CustomerKey). puts c.read_text.new.transaction.writes (number_of_key t0.scale (key.CustomerData k)) (Some after)) c.payer-key.ensures
          ∙ ap (λ (w : WriteSetView). puts w (number_of_key t0.scale (key.CustomerData (payer x id))) (Some after)) c.read_text.ensures.reads.writes;
      right = λ t h.
          let before = subst (λ (r : ReadSetView). IsCandidate t0 r t) c.put_wide.ensures.reads h in
          let held = ap (λ (k : CustomerKey). row_at t (key.CustomerData k)) (sym c.payer-key.ensures) ∙ c.in_ok-words.ensures.words t before in
          let found = found_row data_words (get t.texts (payer x id)) c.in_ok-words.words held in
          let text = found.0 in
          let told = c.in_ok-after.ensures text (h.well_formed.text_rows (payer x id) text found.1) (sym found.2) in
          text_changed t x id (h.of_population.keeps ∙ c.requires.keeps) (same_credit t0 t h.of_population (payer x id) ∙ c.requires.bad) text found.1
          ∙ sym (ap Some (told ∙ ap (λ (front : PaymentText). data_words (put_left (payment_text front) text)) c.front.ensures));
    }
