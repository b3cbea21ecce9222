use Rattle.std.proofs.Common.{rules, ◌≡◌, ◌+◌, [], ◌∷◌, ◌++◌, drop, map, ap, ◌∙◌}
use Rattle.std.specs.Str.{IsUtf8}
use Rattle.std.proofs.lemmas.List.{map_push}
use Rattle.std.proofs.lemmas.List.Elements.{All-push, All-same}
use Rattle.serde_json.specs.View.{items_view}
use Rattle.status_index.specs.Entries.{IndexEntry, new_entry}
use Rattle.status_format.specs.Reading.{each, entry_in}
use Rattle.status_stored.proofs.Fronts.{one_more, with_front}
use Rattle.status_stored.proofs.store.read_entries.Goals as goal

pub loop-item-preserved : goal.loop-item-preserved
loop-item-preserved c =
    let l = c.loop-item in
    let vs = c.in_ok-items.items.now in
    let old = l.entries.items in
    let e = c.in_ok-entry_of.field-0 in
    let pushed : c.push.new.self.items ≡ old ++ e ∷ [] = search rules in
    let listed : map new_entry c.push.new.self.items ≡ map new_entry old ++ new_entry e ∷ [] = ap (map new_entry) pushed ∙ map_push new_entry old e in
    record {
      read = ap (λ front. with_front front (each entry_in (items_view (drop (l.item-index + 1) vs)))) listed
          ∙ one_more (map new_entry old) (new_entry e) entry_in vs l.item-index c.item-item.result _ c.loop-item-test.true c.item-item.is c.in_ok-entry_of.ensures.read l.invariant.read;
      utf8 = All-same (λ (x : IndexEntry). IsUtf8 x.path) _ (map new_entry old ++ new_entry e ∷ []) listed
          (All-push (λ (x : IndexEntry). IsUtf8 x.path) (map new_entry old) (new_entry e) l.invariant.utf8 c.in_ok-entry_of.ensures.utf8);
    }
