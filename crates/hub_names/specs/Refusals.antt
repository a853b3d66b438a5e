-- How a desk names why no publisher was given, or no fifodir made.
use Rattle.hub_requests.specs.declared.reply.Refusal.{Refusal}
use Rattle.hub_requests.specs.declared.reply.Refusal.TheVariants as no
use Rattle.hub_fifodir.specs.declared.PassError.{PassError}
use Rattle.hub_fifodir.specs.declared.PassError.TheVariants as pass
use Rattle.hub_names.specs.declared.hub.HubError.{HubError}
use Rattle.hub_names.specs.declared.hub.HubError.TheVariants as hub

abbrev pub refusal_of_pass : PassError → Refusal
refusal_of_pass pass.Many = no.Many
refusal_of_pass pass.Spent = no.Spent
refusal_of_pass pass.Memory = no.Memory

abbrev pub refusal_of_hub : HubError → Refusal
refusal_of_hub hub.Exists = no.Exists
refusal_of_hub hub.Many = no.Many
refusal_of_hub hub.Memory = no.Memory
