use Rattle.std.proofs.Common.{◌≡◌, ◌∙◌, length, get_or, map, sym, ap, subst, arith}
use Rattle.std.proofs.lemmas.List.{map_push, get_or-map, length-map}
use Rattle.hs_base.specs.LiteralView.{literal_byte}
use Rattle.hs_confirm.specs.Keys.{literal_key}
use Rattle.hs_confirm.specs.Entries.{AreKeyed, IsOwnKey, literal_in}
use Rattle.hs_confirm.proofs.FilingLemmas.{push-more, take-push, keyed-push}
use Rattle.hs_confirm.proofs.filing.entries_of.Goals as goal

pub loop-number-preserved : goal.loop-number-preserved
loop-number-preserved c =
    let entries = c.loop-number.entries.items in
    let entry = c.in_ok-entry_of.field-0 in
    let literals = c.args.literals.now in
    let literal = c.index-literals-number.result in
    let made = c.in_ok-entry_of.ensures in
    let widths = c.args.widths.now in
    let bucket = get_or c.args.buckets.now c.loop-number.number 0 in
    let same : entry.literal.items ≡ literal.items = made.literal ∙ c.as_slice.ensures.value in
    let len : length (literal_in entry) ≡ length literal.items = length-map entry.literal.items literal_byte ∙ ap length same in
    let read : get_or (map (λ l. length l.items) literals) c.loop-number.number 0 ≡ length literal.items = get_or-map (λ l. length l.items) literals c.loop-number.number literal 0 (omega arith) ∙ ap (λ l. length l.items) (sym c.index-literals-number.is) in
    let width : get_or widths entry.bucket 0 ≡ get_or widths bucket 0 = ap (λ b. get_or widths b 0) made.bucket in
    record {
      literals = ap (map literal_in) c.in_ok-push.ensures.items ∙ map_push literal_in entries entry
          ∙ push-more (λ l. map literal_byte l.items) (map literal_in entries) (literal_in entry) literals c.loop-number.number literal (omega arith) c.index-literals-number.is c.loop-number.invariant.literals (ap (map literal_byte) same);
      buckets = ap (map (λ e. e.bucket)) c.in_ok-push.ensures.items ∙ map_push (λ e. e.bucket) entries entry
          ∙ take-push (map (λ e. e.bucket) entries) entry.bucket c.args.buckets.now c.loop-number.number (omega (arith, c.requires.each)) c.loop-number.invariant.buckets made.bucket;
      keyed = subst (AreKeyed c.args.widths.now) (sym c.in_ok-push.ensures.items) (keyed-push c.args.widths.now entries entry c.loop-number.invariant.keyed (record {
        few = omega (arith, made.bucket, c.requires.few c.loop-number.number (omega (arith, c.requires.each)));
        short = omega (arith, len, read, width, c.requires.short c.loop-number.number (omega arith));
        key = made.key
            ∙ ap (λ w. literal_key w (map literal_byte c.as_slice.result.now)) (ap (λ b. get_or widths b 0) c.from.ensures ∙ sym width)
            ∙ ap (λ xs. literal_key (get_or widths entry.bucket 0) (map literal_byte xs)) (sym made.literal);
        own = subst (λ xs. IsOwnKey (map literal_byte xs) entry.own entry.own_mask) (sym made.literal) made.own;
      }));
    }
