mod Order
mod Drops
mod Kept
mod Beside
mod Installs
mod Ingests
mod Depths
mod Moves
mod Plans
mod Witness
mod Streams
mod Cuts
mod Merging
mod Merged
mod Ranges
mod Scanning
mod InOrders
mod Checked
-- the machine
mod LiveLists
mod PlainSteps
mod Installing
mod Gathering
mod Runs
mod Created
pub mod CallerLemmas
