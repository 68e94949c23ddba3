pub mod Updates
pub mod NamesKept
pub mod Rows
pub mod Touched
mod Inserts
mod Room
pub mod OrderNumbers
pub mod NewKey
mod NewLines
mod PaymentKeeps
pub mod Draws
pub mod LineAmount
mod NewOrderKeepsConsistent
mod NewOrderKeepsWellFormed
mod NewOrderKeepsConstants
pub mod OrderAmount
mod DeliveryKeepsWellFormed
mod DeliveryKeepsConstants
pub mod Retained
pub mod RisingNumbers
pub mod NumbersLeft
pub mod DistrictNumbers
mod Sums
mod TakenOrder
mod DeliveredAmounts
mod DeliveryKeepsConsistent
pub mod Kept
pub mod Reaching
