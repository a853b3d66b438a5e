-- A new desk that looks at a client.
use Rattle.std.proofs.Common.{Option, sym, ap, subst, ◌∙◌}
use Rattle.std.specs.Arc.{arc_value}
use Rattle.hub_io.specs.declared.client.Client.{Client}
use Rattle.hub_handles.specs.Handles.{HoldsNone, given_of}
use Rattle.hub_names.specs.Fifodirs.{KeepsNone}
use Rattle.hub_names.specs.declared.hub.Hub.{Hub}
use Rattle.hub_requests.specs.Wills.{wills_in}
use Rattle.hub_shared.specs.Desks.{IsNewDesk, Watches}
use Rattle.hub_shared.specs.declared.shared_desk.SharedDesk.{SharedDesk}

pub still_new : {P : Type 0} (hub : Hub) (pause : P) (client : Option Client) (old new : SharedDesk P) → IsNewDesk hub pause old → Watches old client new → IsNewDesk hub pause new
still_new hub pause client old new is watches = record {
  over = ap arc_value watches.hub ∙ is.over;
  waits = watches.pause ∙ is.waits;
  fifodirs = subst KeepsNone (sym watches.fifodirs) is.fifodirs;
  handles = subst HoldsNone (sym watches.handles) is.handles;
  given = ap given_of watches.handles ∙ is.given;
  wills = ap wills_in watches.wills ∙ is.wills;
  lost = watches.lost ∙ is.lost;
}
