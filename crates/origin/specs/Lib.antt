pub mod Origins
pub mod Laws
