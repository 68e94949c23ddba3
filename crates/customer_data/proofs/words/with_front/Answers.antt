use Rattle.std.proofs.Common.{◌≡◌, take, ap, ◌∙◌}
use Rattle.customer_data.specs.Words.{data_words}
use Rattle.customer_data.specs.Text.{put_left}
use Rattle.customer_data.proofs.Laid.{joined, cut_both}
use Rattle.customer_data.proofs.words.with_front.Goals as goal

pub returns : goal.returns
returns c text is same =
    let front = c.args.front.now in
    let old = c.text_of-text.result.now in
    let found : old ≡ text = c.text_of-text.ensures.text text is (c.unpack-bytes.ensures.text text is same) in
    let first = c.copy_from_slice in
    let second = c.copy_from_slice-2 in
    let i = c.min.result in
    let j = c.min-2.result in
    let copied = joined 500 (take i front) (take j old) first.new.self second.new.self in
    c.words_of.ensures
    ∙ ap data_words (
    copied first.ensures.after second.ensures.after ∙ cut_both 500 i j front old c.min.ensures c.min-2.ensures
    ∙ ap (put_left front) found)
