use Rattle.hub_requests.proofs.FittingNames.{fitting_is_longest, only_longest, replies_show_all}
use Rattle.hub_requests.proofs.listing.Listing.replies_lose_no_name.Goals as goal

pub returns-clause-longest : goal.returns-clause-longest
returns-clause-longest c = fitting_is_longest

pub returns-clause-only : goal.returns-clause-only
returns-clause-only c = only_longest

pub returns-clause-whole : goal.returns-clause-whole
returns-clause-whole c = replies_show_all
