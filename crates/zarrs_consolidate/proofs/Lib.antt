mod CarryingOut
mod Plans
mod PlansOfFolders
