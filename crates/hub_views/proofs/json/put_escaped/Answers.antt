use Rattle.std.proofs.Common.{◌≡◌, ℕ, ◌+◌, ◌<◌, List, ◌++◌, length, get_or, take, flat_map, sym, ap, ◌∙◌}
use Rattle.std.proofs.lemmas.List.{flat_map_more, take_more}
use Rattle.hub_views.specs.Json.{escaped}
use Rattle.hub_views.proofs.json.put_escaped.Goals as goal

-- one byte more
escaped_more : (text : List ℕ) (at : ℕ) (before line grown : List ℕ) → at < length text → line ≡ before ++ flat_map escaped (take at text)
    → grown ≡ line ++ escaped (get_or text at 0) → grown ≡ before ++ flat_map escaped (take (at + 1) text)
escaped_more text at before line grown within so_far more =
    more ∙ ap (λ l. l ++ escaped (get_or text at 0)) so_far ∙ flat_map_more escaped before (take at text) (get_or text at 0)
    ∙ ap (λ l. before ++ flat_map escaped l) (sym (take_more text at 0 within))

pub bytes-preserved : goal.bytes-preserved
bytes-preserved c = escaped_more c.args.text.now c.bytes.byte-index _ c.bytes.line.items _ c.bytes-test.true c.bytes.invariant c.in_ok-put_byte.ensures
