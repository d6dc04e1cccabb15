-- What holds of all entries holds of the items among them.
use Rattle.std.proofs.Common.{All, List, map, sym, subst}
use Rattle.std.proofs.lemmas.Grind.{get_or_picked}
use Rattle.foz_entry.specs.declared.cut.Entry.{Entry}
use Rattle.dep_graph.specs.declared.class.Class.{Class}
use Rattle.dep_graph.specs.Classes.{is_item}
use Rattle.dep_graph.specs.Items.{item_entries}

pub of_items : (P : Entry → Type 0) (entries : List Entry) (classes : List Class) → All P entries → All P (item_entries entries classes)
unfolding item_entries
of_items P entries classes all = λ i d below. let (j, inside, same) = (get_or_picked (map is_item classes) entries i d below).1 in subst P (sym same) (all j d inside)
